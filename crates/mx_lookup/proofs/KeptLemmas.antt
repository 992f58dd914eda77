-- Where reads are told, those that were noted stay.
use Rattle.std.proofs.Common.{◌≡◌, inl, inr, ℕ, List, [], ◌∷◌, ◌++◌, Option, Some, None, refl, sym, ◌∙◌, ap, subst, append_assoc, append-nil}
use Rattle.std.specs.Prelude.{Result, Ok, Err}
use Rattle.mx_store.specs.Calls.{Reads}
use Rattle.mx_store.specs.declared.store.StoreError.{StoreError}
use Rattle.mx_store.specs.declared.store.StoreError.TheVariants.{Failed, NoMemory}
use Rattle.mx_lookup.specs.Looking.{ReadsAll, ReadsOn}

pub reads_stay : (reads : Option (List (List ℕ))) → ReadsOn reads reads
reads_stay None = refl
reads_stay (Some reads) = ([], ap (λ (l : List (List ℕ)). Some l) (sym (append-nil reads)))

pub reads_same : (before after : Option (List (List ℕ))) → after ≡ before → ReadsOn before after
reads_same before after is = subst (λ (r : Option (List (List ℕ))). ReadsOn before r) (sym is) (reads_stay before)

pub reads_then : (before during after : Option (List (List ℕ))) → ReadsOn before during → ReadsOn during after → ReadsOn before after
reads_then None during after first second = subst (λ (r : Option (List (List ℕ))). ReadsOn r after) first second
reads_then (Some before) during after first second =
    let rest = subst (λ (r : Option (List (List ℕ))). ReadsOn r after) first.1 second in
    (first.0 ++ rest.0, rest.1 ∙ ap (λ (l : List (List ℕ)). Some l) (append_assoc before first.0 rest.0))

pub all_on : (paths : List (List ℕ)) (before after : Option (List (List ℕ))) → ReadsAll paths before after → ReadsOn before after
all_on paths None after all = all
all_on paths (Some before) after all = (paths, all)

pub read_on : (T : Type 0) (path : List ℕ) (before after : Option (List (List ℕ))) (result : Result T StoreError) → Reads path before after result → ReadsOn before after
read_on T path None after result read = read
read_on T path (Some before) after (Ok x) read = (path ∷ [], read)
read_on T path (Some before) after (Err Failed) read = (path ∷ [], read)
read_on T path (Some before) after (Err NoMemory) (inl same) = reads_same (Some before) after same
read_on T path (Some before) after (Err NoMemory) (inr read) = (path ∷ [], read)
