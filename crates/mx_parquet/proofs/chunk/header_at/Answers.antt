use Rattle.std.proofs.Common.{◌∙◌, ℕ, sym, ap, drop}
use Rattle.mx_parquet.specs.declared.header.PageSize.{PageSize}
use Rattle.mx_parquet.specs.Headers.{header_in}
use Rattle.mx_parquet.proofs.ChunkSays.{header_found, header_goes_on, no_header, none_at}
use Rattle.mx_parquet.proofs.chunk.header_at.Goals as goal

pub returns-in-Ok-size_of-clause-found : goal.returns-in-Ok-size_of-clause-found
returns-in-Ok-size_of-clause-found c =
    header_found c.args.bytes.now c.args.at _ _ _ c.in-Ok.ensures.found c.in-Ok.ensures.only (ap header_in (sym c.as_slice.ensures) ∙ sym c.in-Ok-size_of.ensures)

pub returns-in-Ok-size_of-clause-goes_on : goal.returns-in-Ok-size_of-clause-goes_on
returns-in-Ok-size_of-clause-goes_on c = header_goes_on c.args.bytes.now c.args.at _ _ c.requires c.in-Ok.ensures.found

pub returns-in-Ok-clause-found : goal.returns-in-Ok-clause-found
returns-in-Ok-clause-found c =
    none_at {X = PageSize × ℕ} (λ x. x) (λ x. (x.0, drop x.1 c.args.bytes.now)) _ c.at.result (no_header c.args.bytes.now c.args.at _ _ _ c.in-Ok.ensures.only (ap header_in (sym c.as_slice.ensures) ∙ sym c.in-Err-size_of.ensures))
