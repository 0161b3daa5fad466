-- The types of the opened record are declared in the code. Beside them: when a section lies in a file, and how wide the directories' records are.
pub mod Within
pub mod Widths
