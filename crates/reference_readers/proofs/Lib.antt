pub mod Automaton
pub mod Steps
pub mod WordNumbers
pub mod Words
