mod Along
mod Apart
mod Held
mod ListsOf
mod Parts
