-- What a commit adds to the index is spelled by payloads, and its log reads back.
use Rattle.std.proofs.Common.{◌≡◌, inl, inr, ℕ, ◌^◌, ◌<◌, ◌≤◌, Bool, true, false, cond, List, [], ◌∷◌, ◌++◌, map, length, Option, Some, None, Result, Ok, Err, refl, sym, ◌∙◌, ap, subst}
use Rattle.std.specs.Prelude.{IsOk, bytes_eq, filter, filter_map, option_map, option_to_list}
use Rattle.std.specs.List.{cons_option}
use Rattle.std.proofs.lemmas.Slice.Eq.{bytes_eq-Decides}
use Rattle.mx_base.specs.declared.entry.Entry.{Entry}
use Rattle.mx_base.specs.declared.entry.FileAt.{FileAt}
use Rattle.mx_base.specs.declared.entry.ShardEntries.{ShardEntries}
use Rattle.mx_files.specs.Delta.{IsDelta, AreShards, delta_on}
use Rattle.mx_files.proofs.DeltaLemmas.{delta-nothing}
use Rattle.mx_folder.specs.Reading.{SpellPayloads}
use Rattle.mx_folder.specs.Slices.{log_of}
use Rattle.mx_folder.proofs.FoldLemmas.{Among}
use Rattle.mx_folder.proofs.SliceLemmas.{log_of-read}
use Rattle.mx_hfile.specs.Encoding.{AreEntries, encoding as file_encoding}
use Rattle.mx_log.specs.Encoding.{log_encoding}
use Rattle.mx_log.proofs.LogLemmas.{log_again}
use Rattle.mx_merge.specs.Merged.{IsRead, payload_of, read_payload, payloads_on_key, values_on_key}
use Rattle.mx_payload.specs.Decoding.{payload_in}
use Rattle.mx_payload.specs.Encoding.{encoding}
use Rattle.mx_payload.specs.declared.payload.Payload.{Payload}

-- ---- each value is read

value_here : (e : Entry) (es : List Entry) → Among e es → Among e.value (values_on_key e.key es)
value_here e [] never = absurd never
value_here e (x ∷ es) (inl same) = subst (λ (b : Bool). Among e.value (map (λ (y : Entry). y.value) (cond b (x ∷ filter (λ (y : Entry). bytes_eq y.key e.key) es) (filter (λ (y : Entry). bytes_eq y.key e.key) es))))
    (sym ((bytes_eq-Decides x.key e.key).1 (ap (λ (y : Entry). y.key) (sym same)))) (inl (ap (λ (y : Entry). y.value) same))
value_here e (x ∷ es) (inr more) = from (bytes_eq x.key e.key) (value_here e es more)
  where
    from : (b : Bool) → Among e.value (values_on_key e.key es) → Among e.value (map (λ (y : Entry). y.value) (cond b (x ∷ filter (λ (y : Entry). bytes_eq y.key e.key) es) (filter (λ (y : Entry). bytes_eq y.key e.key) es)))
    from true there = inr there
    from false there = there

one_read : (v : List ℕ) (p : Payload) (r : Result Payload ℕ) → payload_in v ≡ r → cons_option (read_payload r) [] ≡ p ∷ [] → IsRead v
one_read v p (Ok q) reads is = subst IsOk (sym reads) refl
one_read v p (Err left) reads is = absurd (cc is)

among_read : (o : Option Payload) (vs : List (List ℕ)) → vs ≡ option_to_list (option_map encoding o) → filter_map payload_of vs ≡ option_to_list o → (v : List ℕ) → Among v vs → IsRead v
among_read None vs are reads v is = absurd (subst (Among v) are is)
among_read (Some p) vs are reads v is = here (subst (Among v) are is)
  where
    here : Among v (encoding p ∷ []) → IsRead v
    here (inl same) = subst IsRead (sym same) (one_read (encoding p) p (payload_in (encoding p)) refl (sym (ap (filter_map payload_of) are) ∙ reads))
    here (inr never) = absurd never

each_read : (es : List Entry) → ((e : Entry) → Among e es → IsRead e.value) → SpellPayloads es
each_read [] all = tt
each_read (e ∷ es) all = (all e (inl refl), each_read es (λ x is. all x (inr is)))

pub spelled : (news gone : List FileAt) (es : List Entry) → IsDelta news gone es → SpellPayloads es
unfolding payloads_on_key
spelled news gone es is = each_read es (λ e among. among_read (delta_on e.key news gone) (values_on_key e.key es) (is.values e.key) (is.payloads e.key) e.value (value_here e es among))

-- ---- the entries of the one shard

nothing_added : IsDelta [] [] []
unfolding payloads_on_key
nothing_added = record {
  are = record { rising = tt; each = tt };
  values = λ key. sym (ap (λ (x : Option Payload). option_to_list (option_map encoding x)) (delta-nothing key));
  payloads = λ key. sym (ap (λ (x : Option Payload). option_to_list x) (delta-nothing key));
}

no_files : (xs ys : List FileAt) → xs ++ ys ≡ [] → (xs ≡ []) × (ys ≡ [])
no_files [] ys is = (refl, is)
no_files (x ∷ xs) ys is = absurd (cc is)

pub no_shard : (news : List FileAt) (shards : List ShardEntries) (es : List Entry) → AreShards news [] shards → shards ≡ [] → es ≡ [] → IsDelta news [] es
no_shard news [] es are none empty = subst (λ (fs : List FileAt). IsDelta fs [] es) (sym (no_files news [] are).0) (subst (IsDelta [] []) (sym empty) nothing_added)
no_shard news (s ∷ shards) es are none empty = absurd (cc none)

pub one_shard : (news : List FileAt) (shards front : List ShardEntries) (s : ShardEntries) → AreShards news [] shards → shards ≡ front ++ s ∷ [] → IsDelta news [] s.entries
one_shard news [] [] s are is = absurd (cc is)
one_shard news [] (t ∷ front) s are is = absurd (cc is)
one_shard news (r ∷ []) [] s are is = let same : r ≡ s = cc in subst (λ (x : ShardEntries). IsDelta news [] x.entries) same are.2
one_shard news (r ∷ []) (t ∷ []) s are is = absurd (cc is)
one_shard news (r ∷ []) (t ∷ (u ∷ front)) s are is = absurd (cc is)
one_shard news (r ∷ (q ∷ shards)) front s are is = absurd are

-- ---- the log reads back

pub log_reads : (t : ℕ) (es : List Entry) → 0 < t → t < 10 ^ 17 → AreEntries es → length (file_encoding es) ≤ 268_435_456 → log_of t (log_encoding t es) ≡ Some es
log_reads t es meant small are room = log_of-read t t (log_encoding t es) es (log_again t es (record { some = meant; small = small }) are room) refl
