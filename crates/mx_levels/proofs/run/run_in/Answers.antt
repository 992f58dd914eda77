use Rattle.std.proofs.Common.{◌++◌, ap, ◌∙◌, sym, List, ℕ}
use Rattle.std.proofs.lemmas.Int.{to_z-of_z}
use Rattle.std.specs.Int.{w64}
use Rattle.mx_avro.specs.Encoding.{zigzag, long_encoding}
use Rattle.mx_levels.specs.Encoding.{body}
use Rattle.mx_levels.proofs.RunLemmas.{number, holds_run, begins_long, packed_header, repeated_header}
use Rattle.mx_levels.proofs.run.run_in.Goals as goal

pub returns-in_default : goal.returns-in_default
returns-in_default c = λ run behind fit parts.
    let long = begins_long c.args.left c.args.bytes.now run behind fit parts in
    c.in_default.not-Ok _ (c.take_long.ensures.only (number run) (body run ++ behind) long.0 long.1)

pub returns-then-packed : goal.returns-then-packed
returns-then-packed c =
    let f = c.in-Ok.ensures.found in
    let n = c.in-Ok.number in
    holds_run
    c.args.bytes.now c.split_at.result.1.now n c.args.left _ _ f.0
    (f.1.1 ∙ ap (λ (r : List ℕ). long_encoding n ++ r) (sym c.split_at.ensures.back))
    (packed_header n c.header_of-packed.result.1 c.header_of-packed.result.0 (ap zigzag (sym (to_z-of_z w64 n f.0)) ∙ c.header_of-packed.ensures) c.if-packed.true)
    c.packed_in.ensures

pub returns-else-packed : goal.returns-else-packed
returns-else-packed c =
    let f = c.in-Ok.ensures.found in
    let n = c.in-Ok.number in
    holds_run
    c.args.bytes.now c.split_at.result.1.now n c.args.left _ _ f.0
    (f.1.1 ∙ ap (λ (r : List ℕ). long_encoding n ++ r) (sym c.split_at.ensures.back))
    (repeated_header n c.header_of-packed.result.1 c.header_of-packed.result.0 (ap zigzag (sym (to_z-of_z w64 n f.0)) ∙ c.header_of-packed.ensures) c.if-packed.false)
    c.repeated_in.ensures
