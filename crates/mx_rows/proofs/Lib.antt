mod CellLemmas
mod DoubleLemmas
mod FillLemmas
mod TakenLemmas
