-- The ten checked examples: the table's statement, its rows one by one, and each example in plain terms.
pub mod Holds
pub mod Rows
pub mod OneByOne
