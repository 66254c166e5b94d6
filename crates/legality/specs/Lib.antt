pub mod Legal
pub mod OneEew
