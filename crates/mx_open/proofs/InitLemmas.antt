-- A new table.
use Rattle.std.proofs.Common.{◌≡◌, ◌≢◌, ℕ, zero, suc, ◌+◌, ◌<◌, List, [], ◌∷◌, ◌++◌, length, take, drop, map, get_or, Option, Some, None, Result, Ok, Err, refl, sym, ◌∙◌, ap, subst, append-nil, append_assoc, true}
use Rattle.std.specs.Prelude.{IfSome, OnOk}
use Rattle.std.specs.Option.{SomeIff}
use Rattle.std.specs.FinMap as finmap
use Rattle.std.specs.Cmp.Lexicographic.{nat_list_cmp_total}
use Rattle.std.proofs.lemmas.List.{take_more, drop_more, take-map, map_push}
use Rattle.mx_base.specs.Digits.{instant_text}
use Rattle.mx_base.specs.Objects.{IsObjectName, object_path}
use Rattle.mx_base.specs.declared.object_name.ObjectName.{ObjectName}
use Rattle.mx_base.specs.declared.object_name.ObjectName.TheVariants.{Config}
use Rattle.mx_meta.specs.Places.{stands_in_order, shard_object}
use Rattle.mx_meta.specs.declared.places.ShardFile.TheVariants.{Base}
use Rattle.mx_meta.specs.Views.{Bases}
use Rattle.mx_folder.specs.Begin.{first_mark, init_changes}
use Rattle.mx_folder.specs.Named.{first_base, first_bases}
use Rattle.mx_folder.proofs.BeginLemmas.{new_valid, none_completed}
use Rattle.mx_folder.proofs.NamedLemmas.{other_path, after_all-append}
use Rattle.mx_schema.specs.Columns.{IsSchema}
use Rattle.mx_schema.specs.declared.column.Column.{Column}
use Rattle.mx_store.specs.Journal.{AreAllowed}
use Rattle.mx_store.specs.Objects.{Objects, at_path, after_all, objects_of}
use Rattle.mx_store.specs.declared.change.Change.{Change}
use Rattle.mx_store.proofs.Journal.{objects_of-push}
use Rattle.mx_store.proofs.Paths.{at_nothing, at_other}
use Rattle.mx_open.specs.Init.{HoldsNothing, FirstOf, IsNewTable, with_changes, MayMake, Makes, creation}
use Rattle.mx_open.specs.declared.error.InitError.{InitError}
use Rattle.mx_open.specs.declared.error.InitError.TheVariants.{NotEmpty, StoreFault, NoMemory}
use Rattle.mx_open.specs.declared.new_table.NewObject.{NewObject}

-- the first base is a base
pub base_in_order : stands_in_order Base (object_path first_base ∷ []) ≡ true
unfolding stands_in_order shard_object object_path instant_text
base_in_order = refl

-- a folder that holds nothing is the one that a store begins with
pub nothing_is : (o : Objects) → HoldsNothing o → o ≡ finmap.empty
nothing_is o none = finmap.same_map nat_list_cmp_total (finmap.slice_cmp-IsAntisymmetric finmap.nat_cmp-IsAntisymmetric) o finmap.empty (λ q. none q ∙ sym (at_nothing q))

module _ (before : Option (List Change)) where
  pub changes_none : before ≡ with_changes before []
  changes_none = from before
    where
      from : (j : Option (List Change)) → j ≡ with_changes j []
      from None = refl
      from (Some journal) = ap Some (sym (append-nil journal))

  pub changes_more : (old new : Option (List Change)) (done : List Change) (change : Change) → old ≡ with_changes before done → new ≡ with_changes old (change ∷ []) → new ≡ with_changes before (done ++ change ∷ [])
  changes_more old new done change first second = second ∙ ap (λ (j : Option (List Change)). with_changes j (change ∷ [])) first ∙ from before
    where
      from : (j : Option (List Change)) → with_changes (with_changes j done) (change ∷ []) ≡ with_changes j (done ++ change ∷ [])
      from None = refl
      from (Some journal) = ap Some (append_assoc journal done (change ∷ []))

-- what may be made in turn begins with one that may be made
pub may_first : (before : Option (List Change)) (change : Change) (more : List Change) → MayMake before (change ∷ more) → MayMake before (change ∷ [])
may_first None change more may = tt
may_first (Some journal) change more may = (may.0, tt)

pub may_more : (before after : Option (List Change)) (change : Change) (more : List Change) → MayMake before (change ∷ more) → after ≡ with_changes before (change ∷ []) → MayMake after more
may_more before after change more may made = subst (λ (j : Option (List Change)). MayMake j more) (sym made) (from before may)
  where
    from : (j : Option (List Change)) → MayMake j (change ∷ more) → MayMake (with_changes j (change ∷ [])) more
    from None may = tt
    from (Some journal) may = subst (λ (o : Objects). AreAllowed o more) (sym (objects_of-push journal change)) may.1

-- one more object made
pub made_more : (before old new : Option (List Change)) (objects : List NewObject) (i : ℕ) (x : NewObject) → i < length objects → x ≡ get_or objects i x →
    old ≡ with_changes before (map creation (take i objects)) → new ≡ with_changes old (creation x ∷ []) → new ≡ with_changes before (map creation (take (i + 1) objects))
made_more before old new objects i x within is first second =
    changes_more before old new (map creation (take i objects)) (creation x) first second
    ∙ ap (λ (cs : List Change). with_changes before cs)
    (sym (ap (λ (xs : List NewObject). map creation xs) (take_more objects i x within ∙ ap (λ (y : NewObject). take i objects ++ y ∷ []) (sym is)) ∙ map_push creation (take i objects) x))

-- what may still be made
pub may_at : (before : Option (List Change)) (objects : List NewObject) (i : ℕ) (x : NewObject) → i < length objects → x ≡ get_or objects i x →
    MayMake before (map creation (drop i objects)) → MayMake before (creation x ∷ map creation (drop (i + 1) objects))
may_at before objects i x within is may =
    subst (λ (xs : List NewObject). MayMake before (map creation xs)) (drop_more objects i x within ∙ ap (λ (y : NewObject). y ∷ drop (i + 1) objects) (sym is)) may

take_some : {X : Type 0} (n : ℕ) (x : X) → take (suc n) (x ∷ []) ≡ x ∷ []
take_some zero x = refl
take_some (suc n) x = refl

-- the object after so many was made or not
pub made_front : (before old new : Option (List Change)) (objects : List NewObject) (i : ℕ) (x : NewObject) → i < length objects → x ≡ get_or objects i x →
    old ≡ with_changes before (map creation (take i objects)) → (count : ℕ) → new ≡ with_changes old (take count (creation x ∷ [])) →
    (all : ℕ) × (new ≡ with_changes before (take all (map creation objects)))
made_front before old new objects i x within is first zero second =
    (i, second ∙ sym (changes_none old) ∙ first ∙ ap (λ (cs : List Change). with_changes before cs) (sym (take-map creation i objects)))
made_front before old new objects i x within is first (suc n) second = (
  i + 1,
  made_more before old new objects i x within is first (second ∙ ap (λ (cs : List Change). with_changes old cs) (take_some n (creation x)))
      ∙ ap (λ (cs : List Change). with_changes before cs) (sym (take-map creation (i + 1) objects)),
)

pub make_ends : (before old new : Option (List Change)) (objects : List NewObject) (i : ℕ) (x : NewObject) → i < length objects → x ≡ get_or objects i x →
    old ≡ with_changes before (map creation (take i objects)) → (r s : Result Unit InitError) (e : InitError) → s ≡ Err e → r ≡ Err e → Makes (creation x ∷ []) old new r → Makes (map creation objects) before new s
make_ends before old new objects i x within is first r s e ends fails makes =
    subst (λ (t : Result Unit InitError). Makes (map creation objects) before new t) (sym ends) (from e (subst (λ (t : Result Unit InitError). Makes (creation x ∷ []) old new t) fails makes))
  where
    told : (b o : Option (List Change)) (path : List ℕ) → o ≡ with_changes b (map creation (take i objects)) → Makes (creation x ∷ []) o new (Err (NotEmpty path)) → Makes (map creation objects) b new (Err (NotEmpty path))
    told None None path is makes = makes
    told None (Some journal) path is makes = absurd (cc is)
    told (Some journal) None path is makes = absurd (cc is)
    told (Some journal) (Some later) path is makes = absurd makes

    from : (e : InitError) → Makes (creation x ∷ []) old new (Err e) → Makes (map creation objects) before new (Err e)
    from (NotEmpty path) makes = told before old path first makes
    from StoreFault makes = made_front before old new objects i x within is first makes.0 makes.1
    from NoMemory makes = made_front before old new objects i x within is first makes.0 makes.1

-- ---- in a folder that holds nothing

apart : (one other : ObjectName) → IsObjectName one → IsObjectName other → one ≢ other → (o : Objects) (bytes : List ℕ) → at_path (finmap.insert o (object_path other) bytes) (object_path one) ≡ at_path o (object_path one)
apart one other is also differ o bytes = at_other o (object_path other) bytes (object_path one) (other_path one other is also differ)

init_allowed : (schema : List Column) → AreAllowed finmap.empty (init_changes schema)
init_allowed schema = (
  at_nothing (object_path first_mark),
  (
    apart first_base first_mark refl refl (λ same. absurd (cc same)) _ _ ∙ at_nothing (object_path first_base),
    (
      apart first_bases first_base refl refl (λ same. absurd (cc same)) _ _ ∙ apart first_bases first_mark refl refl (λ same. absurd (cc same)) _ _ ∙ at_nothing (object_path first_bases),
      (
        apart Config first_bases refl refl (λ same. absurd (cc same)) _ _ ∙ apart Config first_base refl refl (λ same. absurd (cc same)) _ _ ∙ apart Config first_mark refl refl (λ same. absurd (cc same)) _ _
            ∙ at_nothing (object_path Config),
        tt,
      ),
    ),
  ),
)

pub may_init : (before : Option (List Change)) (schema : List Column) (changes : List Change) → changes ≡ init_changes schema → FirstOf before None → MayMake before changes
may_init before schema changes all none = subst (λ (cs : List Change). MayMake before cs) (sym all) (from before none)
  where
    from : (before : Option (List Change)) → FirstOf before None → MayMake before (init_changes schema)
    from None none = tt
    from (Some journal) none = subst (λ (o : Objects). AreAllowed o (init_changes schema)) (sym (nothing_is (objects_of journal) none)) (init_allowed schema)

new_after : (journal : List Change) (schema : List Column) → HoldsNothing (objects_of journal) → objects_of (journal ++ init_changes schema) ≡ objects_of (init_changes schema)
new_after journal schema none = after_all-append finmap.empty journal (init_changes schema) ∙ ap (λ (o : Objects). after_all o (init_changes schema)) (nothing_is (objects_of journal) none)

is_new : (schema : List Column) → IsSchema schema → IsNewTable (objects_of (init_changes schema))
is_new schema is = record { valid = new_valid schema is; fresh = none_completed schema }

pub init_table : (before after : Option (List Change)) (schema : List Column) (changes : List Change) (r : Result Unit InitError) → IsSchema schema → changes ≡ init_changes schema → FirstOf before None → Makes changes before after r → OnOk r (IfSome after (λ journal. IsNewTable (objects_of journal)))
init_table before after schema changes (Err e) is all none makes = tt
init_table before after schema changes (Ok done) is all none makes = from before none (makes ∙ ap (λ (cs : List Change). with_changes before cs) all)
  where
    from : (before : Option (List Change)) → FirstOf before None → after ≡ with_changes before (init_changes schema) → IfSome after (λ journal. IsNewTable (objects_of journal))
    from None none is_after = subst (λ (j : Option (List Change)). IfSome j (λ journal. IsNewTable (objects_of journal))) (sym is_after) tt
    from (Some journal) none is_after =
        subst (λ (j : Option (List Change)). IfSome j (λ journal. IsNewTable (objects_of journal))) (sym is_after) (subst IsNewTable (sym (new_after journal schema none)) (is_new schema is))

pub no_meta : (x : Option Bases) (bases : List (List ℕ)) (at : ℕ) → SomeIff x (stands_in_order Base bases ≡ true) (record { bases = bases; upto = at }) → bases ≡ object_path first_base ∷ [] → x ≡ None → ⊥
no_meta None bases at tells is none = tells (ap (stands_in_order Base) is ∙ base_in_order)
no_meta (Some x) bases at tells is none = absurd (cc none)
