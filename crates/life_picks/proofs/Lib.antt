mod Texts
mod Noted
mod Carried
