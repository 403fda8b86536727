-- What the definitions were made to give: the promises that a reader is asked to believe.
pub mod WordsAndBack
pub mod Fresh
pub mod Query
