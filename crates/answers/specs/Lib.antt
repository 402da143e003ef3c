pub mod Refusals
pub mod FamilyNumbers
