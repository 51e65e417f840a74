mod Hoisted
mod Once
mod Placed
mod Finding
mod Listed
mod Scoped
