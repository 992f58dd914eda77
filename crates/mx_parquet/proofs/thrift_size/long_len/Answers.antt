use Rattle.std.proofs.Common.{◌∙◌, ◌*◌, ◌≡◌, arith, ap, sym, length, min, ◌-◌, ◌^◌, ℕ}
use Rattle.mx_avro.specs.Encoding.{groups}
use Rattle.mx_parquet.proofs.Numbers.{groups-cap, long-groups}
use Rattle.mx_parquet.proofs.thrift_size.long_len.Goals as goal

pub returns-clause-value : goal.returns-clause-value
returns-clause-value c =
    let n : c.saturating_mul.result ≡ min (2 * c.args.number) (2 ^ 64 - 1) = omega (arith, c.saturating_mul.ensures) in
    c.groups_len.ensures.value ∙ ap (λ (k : ℕ). length (groups 9 k)) n ∙ groups-cap (2 * c.args.number) ∙ sym (ap length (long-groups c.args.number))
