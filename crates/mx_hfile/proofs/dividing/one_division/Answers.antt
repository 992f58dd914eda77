use Rattle.mx_hfile.proofs.DivisionLemmas as division
use Rattle.mx_hfile.proofs.dividing.one_division.Goals as goal

pub returns-clause-divides : goal.returns-clause-divides
returns-clause-divides c = λ es. division.blocks_of-divides es

pub returns-clause-only : goal.returns-clause-only
returns-clause-only c = λ es bs d. division.one_division es bs d
