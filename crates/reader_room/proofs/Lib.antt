-- The steps of the count of a ring's segments; that it answers whether the ring has room; and that its answer is determined.
pub mod StepsLaws
pub mod Room
pub mod Determined
