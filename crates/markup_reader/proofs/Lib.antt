mod Reading
mod Exact
