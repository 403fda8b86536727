-- The parts of the judgement put together.
pub mod Combined
