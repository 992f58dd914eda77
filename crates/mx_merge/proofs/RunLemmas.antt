-- Payloads read one by one show what they show together.
use Rattle.std.proofs.Common.{◌≡◌, ℕ, Bool, true, false, eqb, ◌&&◌, List, [], ◌∷◌, ◌++◌, map, Option, Some, refl, sym, ◌∙◌, ap, arith}
use Rattle.std.proofs.lemmas.Bool.{eqb-true}
use Rattle.std.proofs.lemmas.List.Sums.{fold-append}
use Rattle.std.specs.Option.{option_to_list, option_and_then}
use Rattle.std.specs.List.{fold, flat_map, list_all, last_or}
use Rattle.std.specs.FinMap as finmap
use Rattle.mx_payload.specs.declared.payload.NameWord.{NameWord}
use Rattle.mx_payload.specs.declared.payload.Payload.{Payload}
use Rattle.mx_payload.specs.declared.payload.Payload.TheVariants.{Partitions, Files, Stats, Bloom, Location}
use Rattle.mx_payload.specs.Rules.{plain, IsWellFormed}
use Rattle.mx_payload.specs.Union.{kind, words_of}
use Rattle.mx_merge.specs.declared.run.Run.{Run}
use Rattle.mx_merge.specs.declared.run.Run.TheVariants as runs
use Rattle.mx_merge.specs.Shown.{SizeMap, last_run, with_word, sizes_left, words_with, shown_by, shown}
use Rattle.mx_merge.specs.Said.{partition_sizes, file_sizes, pushed, is_deleted, shown_run, IsKept, AreLong}
use Rattle.mx_merge.proofs.SizeLemmas.{AreBare, bare-empty, bare-left, words_again, names_again, long-empty, long-left}

abbrev pub run_of : List Payload → Run
run_of payloads = fold pushed runs.Nothing payloads

abbrev last_of : Payload → List Payload → Payload
last_of p [] = p
last_of p (q ∷ qs) = last_of q qs

-- a run and more payloads of its kind
abbrev continued : Run → List Payload → Run
continued runs.Nothing ps = runs.Nothing
continued (runs.Partitions sizes) ps = runs.Partitions (sizes_left sizes (flat_map words_of ps))
continued (runs.Files sizes) ps = runs.Files (sizes_left sizes (flat_map words_of ps))
continued (runs.Last p) ps = runs.Last (last_of p ps)

-- the run of payloads of one kind
abbrev said : List Payload → Run
said [] = runs.Nothing
said (p ∷ ps) = continued (pushed runs.Nothing p) ps

left-append : (sizes : SizeMap) (a b : List NameWord) → sizes_left (sizes_left sizes a) b ≡ sizes_left sizes (a ++ b)
left-append sizes a b = sym (fold-append with_word sizes a b)

one_more : (r : Run) (p q : Payload) (qs : List Payload) → kind q ≡ kind p → continued (pushed (pushed r p) q) qs ≡ continued (pushed r p) (q ∷ qs)
one_more r (Partitions ns) (Partitions ms) qs e = ap runs.Partitions (left-append (sizes_left (partition_sizes r) (map plain ns)) (map plain ms) (flat_map words_of qs))
one_more r (Files ws) (Files vs) qs e = ap runs.Files (left-append (sizes_left (file_sizes r) ws) vs (flat_map words_of qs))
one_more r (Partitions ns) (Files vs) qs e = absurd (omega arith)
one_more r (Partitions ns) (Stats f c s d) qs e = absurd (omega arith)
one_more r (Partitions ns) (Bloom b d) qs e = absurd (omega arith)
one_more r (Partitions ns) (Location p f i d) qs e = absurd (omega arith)
one_more r (Files ws) (Partitions ms) qs e = absurd (omega arith)
one_more r (Files ws) (Stats f c s d) qs e = absurd (omega arith)
one_more r (Files ws) (Bloom b d) qs e = absurd (omega arith)
one_more r (Files ws) (Location p f i d) qs e = absurd (omega arith)
one_more r (Stats f c s d) (Partitions ms) qs e = absurd (omega arith)
one_more r (Stats f c s d) (Files vs) qs e = absurd (omega arith)
one_more r (Stats f c s d) (Stats f2 c2 s2 d2) qs e = refl
one_more r (Stats f c s d) (Bloom b d2) qs e = refl
one_more r (Stats f c s d) (Location p2 f2 i2 d2) qs e = refl
one_more r (Bloom b d) (Partitions ms) qs e = absurd (omega arith)
one_more r (Bloom b d) (Files vs) qs e = absurd (omega arith)
one_more r (Bloom b d) (Stats f2 c2 s2 d2) qs e = refl
one_more r (Bloom b d) (Bloom b2 d2) qs e = refl
one_more r (Bloom b d) (Location p2 f2 i2 d2) qs e = refl
one_more r (Location p f i d) (Partitions ms) qs e = absurd (omega arith)
one_more r (Location p f i d) (Files vs) qs e = absurd (omega arith)
one_more r (Location p f i d) (Stats f2 c2 s2 d2) qs e = refl
one_more r (Location p f i d) (Bloom b2 d2) qs e = refl
one_more r (Location p f i d) (Location p2 f2 i2 d2) qs e = refl

-- payloads of another kind start anew
anew : (r : Run) (p q : Payload) → (kind q ≡ kind p → ⊥) → pushed (pushed r p) q ≡ pushed runs.Nothing q
anew r (Partitions ns) (Partitions ms) apart = absurd (apart refl)
anew r (Files ws) (Files vs) apart = absurd (apart refl)
anew r (Files ws) (Partitions ms) apart = refl
anew r (Stats f c s d) (Partitions ms) apart = refl
anew r (Bloom b d) (Partitions ms) apart = refl
anew r (Location p f i d) (Partitions ms) apart = refl
anew r (Partitions ns) (Files vs) apart = refl
anew r (Stats f c s d) (Files vs) apart = refl
anew r (Bloom b d) (Files vs) apart = refl
anew r (Location p f i d) (Files vs) apart = refl
anew r p (Stats f c s d) apart = refl
anew r p (Bloom b d) apart = refl
anew r p (Location p2 f i d) apart = refl

abbrev are_like : Payload → List Payload → Bool
are_like p ps = list_all (λ q. eqb (kind q) (kind p)) ps

both_true : (a b : Bool) → (a && b) ≡ true → (a ≡ true) × (b ≡ true)
both_true true b e = (refl, e)
both_true false b e = absurd cc

like_kind : (p q : Payload) (ps : List Payload) → kind q ≡ kind p → are_like q ps ≡ are_like p ps
like_kind p q ps e = ap (λ (k : ℕ). list_all (λ x. eqb (kind x) k) ps) e

go_on : (r : Run) (p : Payload) (ps : List Payload) → are_like p ps ≡ true → fold pushed (pushed r p) ps ≡ continued (pushed r p) ps
go_on r p [] like = no_more (pushed r p)
  where
    no_more : (s : Run) → s ≡ continued s []
    no_more runs.Nothing = refl
    no_more (runs.Partitions sizes) = refl
    no_more (runs.Files sizes) = refl
    no_more (runs.Last q) = refl
go_on r p (q ∷ qs) like =
    let b = both_true _ _ like in
    let e : kind q ≡ kind p = eqb-true (kind q) (kind p) b.0 in
    go_on (pushed r p) q qs (like_kind p q qs e ∙ b.1) ∙ one_more r p q qs e

differ : (p q : Payload) (qs : List Payload) → are_like p (q ∷ qs) ≡ false → are_like q qs ≡ true → kind q ≡ kind p → ⊥
differ p q qs not_all like e =
    let all : are_like p (q ∷ qs) ≡ true = ap (λ (k : ℕ). eqb k (kind p) && are_like p qs) e ∙ itself (kind p) (are_like p qs) (sym (like_kind p q qs e) ∙ like) in
    apart (sym not_all ∙ all)
  where
    itself : (k : ℕ) (b : Bool) → b ≡ true → (eqb k k && b) ≡ true
    itself k b e = grind arith

    apart : false ≡ true → ⊥
    apart e = absurd cc

stop_step : (r : Run) (p q : Payload) (qs : List Payload) (u : Bool) → are_like q qs ≡ u → are_like p (q ∷ qs) ≡ false
    → (are_like q qs ≡ false → fold pushed (pushed (pushed r p) q) qs ≡ said (last_run qs)) → fold pushed (pushed (pushed r p) q) qs ≡ said (last_run (q ∷ qs))
stop_step r p q qs false like not_all again = again like ∙ rw like refl
stop_step r p q qs true like not_all again =
    let new : pushed (pushed r p) q ≡ pushed runs.Nothing q = anew r p q (differ p q qs not_all like) in
    let whole : last_run (q ∷ qs) ≡ q ∷ qs = rw like refl in
    ap (λ (s : Run). fold pushed s qs) new ∙ go_on runs.Nothing q qs like ∙ ap said (sym whole)

stop : (r : Run) (p : Payload) (ps : List Payload) → are_like p ps ≡ false → fold pushed (pushed r p) ps ≡ said (last_run ps)
stop r p [] not_all = absurd cc
stop r p (q ∷ qs) not_all = stop_step r p q qs (are_like q qs) refl not_all (λ like. stop (pushed r p) q qs like)

pub run_is : (ps : List Payload) → run_of ps ≡ said (last_run ps)
run_is [] = refl
run_is (p ∷ ps) = by_test (are_like p ps) refl
  where
    by_test : (b : Bool) → are_like p ps ≡ b → fold pushed (pushed runs.Nothing p) ps ≡ said (last_run (p ∷ ps))
    by_test true like = let whole : last_run (p ∷ ps) ≡ p ∷ ps = rw like refl in go_on runs.Nothing p ps like ∙ ap said (sym whole)
    by_test false like = let less : last_run (p ∷ ps) ≡ last_run ps = rw like refl in stop runs.Nothing p ps like ∙ ap said (sym less)

-- ---- what is shown

last_kind : (p : Payload) (ps : List Payload) → are_like p ps ≡ true → kind (last_of p ps) ≡ kind p
last_kind p [] like = refl
last_kind p (q ∷ qs) like =
    let b = both_true _ _ like in
    let e : kind q ≡ kind p = eqb-true (kind q) (kind p) b.0 in
    last_kind q qs (like_kind p q qs e ∙ b.1) ∙ e

single : (p l : Payload) (ps : List Payload) → kind l ≡ kind p → l ≡ last_of p ps → shown_by (p ∷ ps) l ≡ shown_run (continued (pushed runs.Nothing p) ps)
single (Partitions ns) (Partitions ms) ps e is = ap (λ (s : SizeMap). Some (Partitions (finmap.keys s))) (sym (left-append finmap.empty (map plain ns) (flat_map words_of ps)))
single (Files ws) (Files vs) ps e is = ap (λ (s : SizeMap). Some (Files (words_with s))) (sym (left-append finmap.empty ws (flat_map words_of ps)))
single (Files ws) (Partitions ms) ps e is = absurd (omega arith)
single (Stats f c s d) (Partitions ms) ps e is = absurd (omega arith)
single (Bloom b d) (Partitions ms) ps e is = absurd (omega arith)
single (Location p f i d) (Partitions ms) ps e is = absurd (omega arith)
single (Partitions ns) (Files vs) ps e is = absurd (omega arith)
single (Stats f c s d) (Files vs) ps e is = absurd (omega arith)
single (Bloom b d) (Files vs) ps e is = absurd (omega arith)
single (Location p f i d) (Files vs) ps e is = absurd (omega arith)
single (Partitions ns) (Stats f c s d) ps e is = absurd (omega arith)
single (Partitions ns) (Bloom b d) ps e is = absurd (omega arith)
single (Partitions ns) (Location p f i d) ps e is = absurd (omega arith)
single (Files ws) (Stats f c s d) ps e is = absurd (omega arith)
single (Files ws) (Bloom b d) ps e is = absurd (omega arith)
single (Files ws) (Location p f i d) ps e is = absurd (omega arith)
single (Stats f c s d) (Stats f2 c2 s2 d2) ps e is = ap (λ (l : Payload). shown_run (runs.Last l)) is
single (Stats f c s d) (Bloom b2 d2) ps e is = ap (λ (l : Payload). shown_run (runs.Last l)) is
single (Stats f c s d) (Location p2 f2 i2 d2) ps e is = ap (λ (l : Payload). shown_run (runs.Last l)) is
single (Bloom b d) (Stats f2 c2 s2 d2) ps e is = ap (λ (l : Payload). shown_run (runs.Last l)) is
single (Bloom b d) (Bloom b2 d2) ps e is = ap (λ (l : Payload). shown_run (runs.Last l)) is
single (Bloom b d) (Location p2 f2 i2 d2) ps e is = ap (λ (l : Payload). shown_run (runs.Last l)) is
single (Location p f i d) (Stats f2 c2 s2 d2) ps e is = ap (λ (l : Payload). shown_run (runs.Last l)) is
single (Location p f i d) (Bloom b2 d2) ps e is = ap (λ (l : Payload). shown_run (runs.Last l)) is
single (Location p f i d) (Location p2 f2 i2 d2) ps e is = ap (λ (l : Payload). shown_run (runs.Last l)) is

ends_step : (p : Payload) (ps : List Payload) (b : Bool) → are_like p ps ≡ b → (are_like p ps ≡ false → shown_by (last_run ps) (last_of p ps) ≡ shown_run (said (last_run ps))) → shown_by (last_run (p ∷ ps)) (last_of p ps) ≡ shown_run (said (last_run (p ∷ ps)))
ends_step p ps true like again =
    let whole : last_run (p ∷ ps) ≡ p ∷ ps = rw like refl in
    ap (λ (l : List Payload). shown_by l (last_of p ps)) whole ∙ single p (last_of p ps) ps (last_kind p ps like) refl ∙ ap (λ (l : List Payload). shown_run (said l)) (sym whole)
ends_step p ps false like again =
    let less : last_run (p ∷ ps) ≡ last_run ps = rw like refl in
    ap (λ (l : List Payload). shown_by l (last_of p ps)) less ∙ again like ∙ ap (λ (l : List Payload). shown_run (said l)) (sym less)

ends : (p : Payload) (ps : List Payload) → shown_by (last_run (p ∷ ps)) (last_of p ps) ≡ shown_run (said (last_run (p ∷ ps)))
ends p [] = ends_step p [] true refl (λ e. absurd cc)
ends p (q ∷ qs) = ends_step p (q ∷ qs) (are_like p (q ∷ qs)) refl (λ e. ends q qs)

last_is : (p : Payload) (ps : List Payload) → last_or (Some p) ps ≡ Some (last_of p ps)
last_is p [] = refl
last_is p (q ∷ qs) = last_is q qs

pub shown_is : (ps : List Payload) → shown ps ≡ shown_run (run_of ps)
unfolding shown
shown_is [] = refl
shown_is (p ∷ ps) = ap (option_and_then (shown_by (last_run (p ∷ ps)))) (last_is p ps) ∙ ends p ps ∙ ap shown_run (sym (run_is (p ∷ ps)))

-- ---- what is shown may stand in the place of what it is shown for

-- a run of payloads: names of partitions have no sizes, and a list is not the last payload
abbrev IsRun : Run → Type 0
IsRun runs.Nothing = Unit {0}
IsRun (runs.Partitions sizes) = AreBare sizes
IsRun (runs.Files sizes) = Unit {0}
IsRun (runs.Last p) = pushed runs.Nothing p ≡ runs.Last p

bare_before : (r : Run) → IsRun r → AreBare (partition_sizes r)
bare_before runs.Nothing is = bare-empty
bare_before (runs.Partitions sizes) is = is
bare_before (runs.Files sizes) is = bare-empty
bare_before (runs.Last p) is = bare-empty

run_pushed : (r : Run) (p : Payload) → IsRun r → IsRun (pushed r p)
run_pushed r (Partitions ns) is = bare-left (partition_sizes r) ns (bare_before r is)
run_pushed r (Files ws) is = tt
run_pushed r (Stats f c s d) is = refl
run_pushed r (Bloom b d) is = refl
run_pushed r (Location p f i d) is = refl

run_fold : (r : Run) (ps : List Payload) → IsRun r → IsRun (fold pushed r ps)
run_fold r [] is = is
run_fold r (p ∷ ps) is = run_fold (pushed r p) ps (run_pushed r p is)

over_last : (l p : Payload) → pushed runs.Nothing p ≡ pushed (runs.Last l) p
over_last l (Partitions ns) = refl
over_last l (Files ws) = refl
over_last l (Stats f c s d) = refl
over_last l (Bloom b d) = refl
over_last l (Location p f i d) = refl

taken_out : (l : Payload) (qs : List Payload) → is_deleted l ≡ true → shown_run (run_of qs) ≡ shown_run (fold pushed (runs.Last l) qs)
taken_out l [] deleted = rw deleted refl
taken_out l (q ∷ qs) deleted = ap (λ (r : Run). shown_run (fold pushed r qs)) (over_last l q)

again : (r : Run) (qs : List Payload) → IsRun r → shown_run (fold pushed (run_of (option_to_list (shown_run r))) qs) ≡ shown_run (fold pushed r qs)
again runs.Nothing qs is = refl
again (runs.Partitions sizes) qs is = ap (λ (s : SizeMap). shown_run (fold pushed (runs.Partitions s) qs)) (names_again sizes is)
again (runs.Files sizes) qs is = ap (λ (s : SizeMap). shown_run (fold pushed (runs.Files s) qs)) (words_again sizes)
again (runs.Last l) qs is = by_test (is_deleted l) refl
  where
    by_test : (b : Bool) → is_deleted l ≡ b → shown_run (fold pushed (run_of (option_to_list (shown_run (runs.Last l)))) qs) ≡ shown_run (fold pushed (runs.Last l) qs)
    by_test true deleted = rw deleted (taken_out l qs deleted)
    by_test false deleted = rw deleted (ap (λ (r : Run). shown_run (fold pushed r qs)) is)

pub shown_again : (ps qs : List Payload) → shown (option_to_list (shown ps) ++ qs) ≡ shown (ps ++ qs)
shown_again ps qs =
    shown_is (option_to_list (shown ps) ++ qs)
    ∙ ap shown_run (fold-append pushed runs.Nothing (option_to_list (shown ps)) qs)
    ∙ ap (λ (o : Option Payload). shown_run (fold pushed (run_of (option_to_list o)) qs)) (shown_is ps)
    ∙ again (run_of ps) qs (run_fold runs.Nothing ps tt)
    ∙ ap shown_run (sym (fold-append pushed runs.Nothing ps qs))
    ∙ sym (shown_is (ps ++ qs))

-- ---- runs keep the rules

long_before : (r : Run) → IsKept r → AreLong (partition_sizes r)
long_before runs.Nothing kept = long-empty
long_before (runs.Partitions sizes) kept = kept
long_before (runs.Files sizes) kept = long-empty
long_before (runs.Last p) kept = long-empty

long_files : (r : Run) → IsKept r → AreLong (file_sizes r)
long_files runs.Nothing kept = long-empty
long_files (runs.Partitions sizes) kept = long-empty
long_files (runs.Files sizes) kept = kept
long_files (runs.Last p) kept = long-empty

pub kept-pushed : (r : Run) (p : Payload) → IsKept r → IsWellFormed p → IsKept (pushed r p)
kept-pushed r (Partitions ns) kept good = long-left (partition_sizes r) (map plain ns) (long_before r kept) good
kept-pushed r (Files ws) kept good = long-left (file_sizes r) ws (long_files r kept) good
kept-pushed r (Stats f c s d) kept good = good
kept-pushed r (Bloom b d) kept good = good
kept-pushed r (Location p f i d) kept good = good
