-- How the search goes through a corner, and that its promise allows one answer.
pub mod Steps
pub mod Answers
