-- That the walk by stripes is the plain walk.
pub mod Going
pub mod Lying
pub mod Places
pub mod Reading
pub mod BuildingLaws
pub mod Ruled
pub mod Walking
pub mod Heights
pub mod Groups
pub mod Builds
pub mod Alike
pub mod Same
