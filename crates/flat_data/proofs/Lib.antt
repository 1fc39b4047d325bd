pub mod Fronts
pub mod OneToOne
