-- That the worked file opens, and what follows.
pub mod Opens
