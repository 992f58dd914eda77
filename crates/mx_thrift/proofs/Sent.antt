-- Bytes that were put at the end, as those of a value.
use Rattle.std.proofs.Common.{◌≡◌, ℕ, suc, ◌+◌, ◌*◌, ◌<◌, ◌≤◌, ℤ, ◌-ℤ◌, List, [], ◌∷◌, ◌++◌, length, map, flat_map, drop, get_or, append_assoc, append-nil, add-one, drop-cons, Result, Ok, Err, sym, ap, ◌∙◌}
use Rattle.std.specs.Result.{OnOk}
use Rattle.std.proofs.Math.ListN.{drop_of_length-le}
use Rattle.std.proofs.lemmas.List.{length-map}
use Rattle.mx_thrift.specs.declared.value.Value.{Value}
use Rattle.mx_thrift.specs.declared.value.Field.{Field}
use Rattle.mx_thrift.specs.Encoding.{list_head, small_gap, struct_bytes, Written, written_value, written_field}
use Rattle.mx_thrift.proofs.Forms.{form-field}

pub sent : {E : Type 0} (r : Result (Unit {0}) E) (v w : Value) (x : ℕ × List ℕ) (out new : List ℕ) → v ≡ w → written_value w ≡ x → OnOk r (new ≡ out ++ x.1) → OnOk r (new ≡ out ++ (written_value v).1)
sent (Ok u) v w x out new is form h = h ∙ ap (λ (t : List ℕ). out ++ t) (sym (ap (λ (a : Value). (written_value a).1) is ∙ ap (λ (y : ℕ × List ℕ). y.1) form))
sent (Err e) v w x out new is form h = tt

pub sent_nothing : (v : Value) (out : List ℕ) → written_value v ≡ (0, []) → out ≡ out ++ (written_value v).1
sent_nothing v out form = sym (append-nil out) ∙ ap (λ (t : List ℕ). out ++ t) (sym (ap (λ (y : ℕ × List ℕ). y.1) form))

pub sent_list : {E : Type 0} (r : Result (Unit {0}) E) (items slice : List Value) (kind n : ℕ) (out mid new : List ℕ) → n ≡ length items → slice ≡ items → mid ≡ out ++ list_head kind n
    → OnOk r (new ≡ mid ++ flat_map (λ item. item.1) (map written_value slice)) → OnOk r (new ≡ out ++ (list_head kind (length (map written_value items)) ++ flat_map (λ item. item.1) (map written_value items)))
sent_list (Ok u) items slice kind n out mid new len same head all =
    let bytes = flat_map (λ item. item.1) (map written_value items) in
    let count : n ≡ length (map written_value items) = len ∙ sym (length-map items written_value) in
    all ∙ ap (λ (xs : List Value). mid ++ flat_map (λ item. item.1) (map written_value xs)) same ∙ ap (λ (t : List ℕ). t ++ bytes) head ∙ append_assoc out (list_head kind n) bytes
    ∙ ap (λ (m : ℕ). out ++ (list_head kind m ++ bytes)) count
sent_list (Err e) items slice kind n out mid new len same head all = tt

-- ---- the loop over items

abbrev all_bytes : List Value → List ℕ
all_bytes items = flat_map (λ item. item.1) (map written_value items)

pub one_item : (items : List Value) (i : ℕ) (v : Value) (out new total : List ℕ) → i < length items → v ≡ get_or items i v → new ≡ out ++ (written_value v).1
    → out ++ flat_map (λ item. item.1) (map written_value (drop i items)) ≡ total → new ++ flat_map (λ item. item.1) (map written_value (drop (i + 1) items)) ≡ total
one_item items i v out new total lt at put so_far =
    let front : drop i items ≡ v ∷ drop (i + 1) items = rw add-one (drop-cons items i v lt ∙ ap (λ (x : Value). x ∷ drop (suc i) items) (sym at)) in
    ap (λ (t : List ℕ). t ++ all_bytes (drop (i + 1) items)) put ∙ append_assoc out (written_value v).1 (all_bytes (drop (i + 1) items))
    ∙ ap (λ (xs : List Value). out ++ all_bytes xs) (sym front) ∙ so_far

pub no_item : (items : List Value) (i : ℕ) (out total : List ℕ) → length items ≤ i → out ++ flat_map (λ item. item.1) (map written_value (drop i items)) ≡ total → out ≡ total
no_item items i out total le so_far =
    let none : drop i items ≡ [] = drop_of_length-le items le in
    sym (append-nil out) ∙ ap (λ (xs : List Value). out ++ all_bytes xs) (sym none) ∙ so_far

-- ---- the loop over fields

fields_front : (last : ℤ) (f : Field) (ws : List Written) → struct_bytes last (written_field f ∷ ws) ≡ (16 * small_gap (f.id -ℤ last) + (written_value f.value).0) ∷ ((written_value f.value).1 ++ struct_bytes f.id ws)
fields_front last f ws = ap (λ (w : Written). struct_bytes last (w ∷ ws)) (form-field f)

pub one_field : (fields : List Field) (i : ℕ) (f : Field) (last : ℤ) (b : ℕ) (out pushed new total : List ℕ) → i < length fields → f ≡ get_or fields i f
    → b ≡ 16 * small_gap (f.id -ℤ last) + (written_value f.value).0 → pushed ≡ out ++ b ∷ [] → new ≡ pushed ++ (written_value f.value).1
    → out ++ struct_bytes last (map written_field (drop i fields)) ≡ total → new ++ struct_bytes f.id (map written_field (drop (i + 1) fields)) ≡ total
one_field fields i f last b out pushed new total lt at is push put so_far =
    let behind = struct_bytes f.id (map written_field (drop (i + 1) fields)) in
    let bytes = (written_value f.value).1 in
    let front : drop i fields ≡ f ∷ drop (i + 1) fields = rw add-one (drop-cons fields i f lt ∙ ap (λ (x : Field). x ∷ drop (suc i) fields) (sym at)) in
    let parts : struct_bytes last (map written_field (drop i fields)) ≡ b ∷ (bytes ++ behind) =
    ap (λ (xs : List Field). struct_bytes last (map written_field xs)) front ∙ fields_front last f (map written_field (drop (i + 1) fields)) ∙ ap (λ (n : ℕ). n ∷ (bytes ++ behind)) (sym is) in
    ap (λ (t : List ℕ). t ++ behind) put ∙ append_assoc pushed bytes behind ∙ ap (λ (t : List ℕ). t ++ (bytes ++ behind)) push ∙ append_assoc out (b ∷ []) (bytes ++ behind)
    ∙ ap (λ (t : List ℕ). out ++ t) (sym parts) ∙ so_far

pub no_field : (fields : List Field) (i : ℕ) (last : ℤ) (out new total : List ℕ) → length fields ≤ i → new ≡ out ++ 0 ∷ [] → out ++ struct_bytes last (map written_field (drop i fields)) ≡ total → new ≡ total
no_field fields i last out new total le put so_far =
    let none : drop i fields ≡ [] = drop_of_length-le fields le in
    put ∙ ap (λ (xs : List Field). out ++ struct_bytes last (map written_field xs)) (sym none) ∙ so_far
