use Rattle.std.proofs.Common.{◌≡◌, List, ℕ, length, Bool, true, false, not, Some, sym, ap, subst, ◌∙◌, refl}
use Rattle.std.proofs.lemmas.Slice.Eq.{bytes_eq-Decides}
use Rattle.std.specs.Str.{bytes_eq}
use Rattle.uuid.specs.Text.{hyphenated_text, lower, parsed}
use Rattle.mx_base.specs.Names.{IsFileId}
use Rattle.uuid.proofs.TextLemmas.{by_index_length}
use Rattle.mx_base.proofs.NameLemmas.{IsFileId-from_text, IsTextOf-file_id}
use Rattle.mx_base.proofs.file_id.FileId.parse.Goals as goal

-- what `!=` says of two texts
same_text : (a b : List ℕ) (r : Bool) → r ≡ not (bytes_eq a b) → r ≡ false → a ≡ b
same_text a b r says is = (bytes_eq-Decides a b).0 (is_equal (bytes_eq a b) (sym says ∙ is))
  where
    is_equal : (e : Bool) → not e ≡ false → e ≡ true
    is_equal true is = refl
    is_equal false is = absurd (cc is)

not_same : (a b : List ℕ) (r : Bool) → r ≡ not (bytes_eq a b) → r ≡ true → a ≡ b → ⊥
not_same a b r says is same = absurd (cc (says, is, (bytes_eq-Decides a b).1 same))

-- where a text is a file id, it is the one that its bytes write
own_text : (id text : List ℕ) → Some id ≡ parsed text → IsFileId text → hyphenated_text lower id ≡ text
own_text id text reads is =
    let of = IsTextOf-file_id text is in
    let same : id ≡ of.0 = cc (reads, of.1.reads) in
    ap (hyphenated_text lower) same ∙ of.1.is

pub returns-in_default-clause-ok : goal.returns-in_default-clause-ok
returns-in_default-clause-ok c = (λ no. absurd (cc no), λ is. let of = IsTextOf-file_id c.args.text.now is in c.in_default.ensures.ok.1 (of.0, of.1.reads))

pub returns-then-ne-clause-ok : goal.returns-then-ne-clause-ok
returns-then-ne-clause-ok c = (
  λ no. absurd (cc no),
  λ is. absurd (not_same c.encode_lower-written.result.now c.args.text.now c.ne.result c.ne.ensures c.if-ne.true
      (c.encode_lower-written.ensures.text ∙ ap (hyphenated_text lower) c.hyphenated.ensures ∙ own_text c.in-Ok.id c.args.text.now c.in-Ok.ensures.bytes is)),
)

pub copy_from_slice-requires : goal.copy_from_slice-requires
copy_from_slice-requires c = sym (ap length (c.as_bytes.ensures.value ∙ c.encode_lower-written.ensures.text) ∙ by_index_length 36 _)

pub returns-clause-ok : goal.returns-clause-ok
returns-clause-ok c =
    let same = same_text c.encode_lower-written.result.now c.args.text.now c.ne.result c.ne.ensures c.if-ne.false in
    (λ _. IsFileId-from_text c.in-Ok.id c.args.text.now (sym c.in-Ok.ensures.bytes) (ap (hyphenated_text lower) (sym c.hyphenated.ensures) ∙ sym c.encode_lower-written.ensures.text ∙ same), λ _. refl)

pub returns-clause-value : goal.returns-clause-value
returns-clause-value c =
    c.copy_from_slice.ensures.after ∙ c.as_bytes.ensures.value ∙ same_text c.encode_lower-written.result.now c.args.text.now c.ne.result c.ne.ensures c.if-ne.false

pub invariant_of-result : goal.invariant_of-result
invariant_of-result c = subst IsFileId (sym (returns-clause-value c)) ((returns-clause-ok c).0 refl)
