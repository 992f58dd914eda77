use Rattle.std.proofs.Common.{◌≡◌, length}
use Rattle.std.specs.List.{AllByRecursion}
use Rattle.mx_thrift.specs.Encoding.{IsWritableValue}
use Rattle.mx_thrift.proofs.writing_tests.empty_texts.Given as goal

abbrev pub invariant-loop : goal.invariant-loop
invariant-loop l = record { count : length l.items ≡ l.counter; all : AllByRecursion (IsWritableValue 14 8) l.items }
