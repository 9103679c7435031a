mod Found
mod Inside
mod Keeping
mod Least
