-- From bytes to shapes: when the directories that a file holds are sound.
pub mod Sound
pub mod Example
