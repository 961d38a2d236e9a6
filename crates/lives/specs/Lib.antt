pub mod Regards
pub mod Lives
