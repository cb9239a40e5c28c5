pub mod Many
pub mod OneByOne
