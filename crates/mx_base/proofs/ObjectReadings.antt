-- Which object a path may be of, read from its front to its end.
use Rattle.std.proofs.Common.{◌≡◌, ◌≢◌, ◌≤◌, ℕ, ◌^◌, ◌<◌, Bool, true, false, not, List, ◌++◌, get_or, Option, Some, None, refl, sym, ◌∙◌, ap, subst, arith, lit<, lit≤}
use Rattle.std.specs.Option.{SomeIff, IfSome}
use Rattle.std.proofs.lemmas.Option.{same_Some}
use Rattle.std.specs.Prelude.{codes, ◌&&◌, ◌||◌, nat_lt}
use Rattle.std.proofs.lemmas.List.{append_cancel_left, get_or_append_left}
use Rattle.std.proofs.lemmas.Bool.Decides.{nat_tests}
use Rattle.mx_base.specs.Digits.{digits, instant_text}
use Rattle.mx_base.specs.Objects.{timeline_ending, metadata_ending, base_ending, part_front, shard_front, object_path, IsObjectName, is_delta_commit}
use Rattle.mx_base.specs.declared.part.Part.{Part}
use Rattle.mx_base.specs.declared.part.Part.TheVariants.{Files, ColumnStats, BloomFilters, RecordIndex}
use Rattle.mx_base.specs.declared.object_name.ActionKind.{ActionKind}
use Rattle.mx_base.specs.declared.object_name.ActionState.{ActionState}
use Rattle.mx_base.specs.declared.object_name.MetadataActionKind.{MetadataActionKind}
use Rattle.mx_base.specs.declared.object_name.BaseKind.{BaseKind}
use Rattle.mx_base.specs.declared.object_name.ObjectName.{ObjectName}
use Rattle.mx_base.specs.declared.object_name.ObjectName.TheVariants.{Config, Timeline, Metadata, Base, Log}
use Rattle.mx_base.proofs.Places.{length-instant, each_digit}
use Rattle.mx_base.proofs.ObjectSplits.{instant-split, shard-split, part-split, timeline_ending-head, metadata_ending-head, base_ending-head}
use Rattle.mx_base.proofs.ObjectPaths.{is_base, is_log, timeline_at, metadata_at}

-- ---- which name a path may be of

pub prefixed : (front name text rest : List ℕ) → text ≡ front ++ rest → name ≡ rest → front ++ name ≡ text
prefixed front name text rest is same = ap (λ (l : List ℕ). front ++ l) same ∙ sym is

-- what follows the front of a shard
pub in_shard : (part : Part) (shard : ℕ) (name : List ℕ) → shard_front part shard ++ name ≡ codes ".hoodie/metadata/" ++ (part_front part ++ (digits 4 shard ++ (codes "_" ++ name)))
in_shard Files shard name = refl
in_shard ColumnStats shard name = refl
in_shard BloomFilters shard name = refl
in_shard RecordIndex shard name = refl

pub instant_head : (at : ℕ) (ending : List ℕ) → get_or (instant_text at ++ ending) 0 0 ≤ 57
unfolding instant_text
instant_head at ending = subst (λ (b : ℕ). b ≤ 57) (sym (get_or_append_left (instant_text at) ending 0 0 (omega (arith, length-instant at)))) (each_digit 17 at 0 0 (lit< tt)).1

pub part_head : (part : Part) (rest : List ℕ) → 97 ≤ get_or (part_front part ++ rest) 0 0
part_head Files rest = lit≤ tt
part_head ColumnStats rest = lit≤ tt
part_head BloomFilters rest = lit≤ tt
part_head RecordIndex rest = lit≤ tt

eighth : List ℕ → ℕ
eighth path = get_or path 8 0

pub outside : (path text : List ℕ) → text ≡ path → ((rest : List ℕ) → text ≢ codes ".hoodie/" ++ rest) → (name : ObjectName) → path ≢ object_path name
unfolding object_path
outside path text is never Config same = never (codes "hoodie.properties") (is ∙ same)
outside path text is never (Timeline at kind state) same = never (instant_text at ++ timeline_ending kind state) (is ∙ same)
outside path text is never (Metadata at kind completed) same = never (codes "metadata/.hoodie/" ++ (instant_text at ++ metadata_ending kind completed)) (is ∙ same)
outside path text is never (Base part shard upto kind) same =
    never (codes "metadata/" ++ (part_front part ++ (digits 4 shard ++ (codes "_" ++ (instant_text upto ++ base_ending kind))))) (is ∙ same ∙ in_shard part shard (instant_text upto ++ base_ending kind))
outside path text is never (Log part shard at) same =
    never (codes "metadata/" ++ (part_front part ++ (digits 4 shard ++ (codes "_" ++ (instant_text at ++ codes ".log"))))) (is ∙ same ∙ in_shard part shard (instant_text at ++ codes ".log"))

pub config_at : (path rest : List ℕ) → codes ".hoodie/" ++ rest ≡ path → rest ≡ codes "hoodie.properties" → path ≡ object_path Config
unfolding object_path
config_at path rest is same = sym is ∙ ap (λ (l : List ℕ). codes ".hoodie/" ++ l) same

pub config_only : (path : List ℕ) → path ≡ object_path Config → (name : ObjectName) → path ≡ object_path name → Config ≡ name
unfolding object_path eighth
config_only path is Config same = refl
config_only path is (Timeline at kind state) same = absurd (omega (arith, ap eighth (sym is ∙ same), instant_head at (timeline_ending kind state)))
config_only path is (Metadata at kind completed) same = absurd (omega (arith, ap eighth (sym is ∙ same)))
config_only path is (Base part shard upto kind) same = absurd (omega (arith, ap eighth (sym is ∙ same)))
config_only path is (Log part shard at) same = absurd (omega (arith, ap eighth (sym is ∙ same)))

pub timeline_only : (path rest : List ℕ) → codes ".hoodie/" ++ rest ≡ path → rest ≢ codes "hoodie.properties" → ((more : List ℕ) → rest ≢ codes "metadata/" ++ more) → (found : Option ObjectName) → ((at : ℕ) (kind : ActionKind) (state : ActionState) → IsObjectName (Timeline at kind state) → codes ".hoodie/" ++ rest ≡ object_path (Timeline at kind state) → found ≡ Some (Timeline at kind state)) → (name : ObjectName) → IsObjectName name → path ≡ object_path name → found ≡ Some name
unfolding object_path
timeline_only path rest is no_config never found only Config kept same = absurd (no_config (append_cancel_left (codes ".hoodie/") rest (codes "hoodie.properties") (is ∙ same)))
timeline_only path rest is no_config never found only (Timeline at kind state) kept same = only at kind state kept (is ∙ same)
timeline_only path rest is no_config never found only (Metadata at kind completed) kept same =
    absurd (never (codes ".hoodie/" ++ (instant_text at ++ metadata_ending kind completed)) (append_cancel_left (codes ".hoodie/") rest (codes "metadata/.hoodie/" ++ (instant_text at ++ metadata_ending kind completed)) (is ∙ same)))
timeline_only path rest is no_config never found only (Base part shard upto kind) kept same =
    let end : List ℕ = part_front part ++ (digits 4 shard ++ (codes "_" ++ (instant_text upto ++ base_ending kind))) in
    absurd (never end (append_cancel_left (codes ".hoodie/") rest (codes "metadata/" ++ end) (is ∙ same ∙ in_shard part shard (instant_text upto ++ base_ending kind))))
timeline_only path rest is no_config never found only (Log part shard at) kept same =
    let end : List ℕ = part_front part ++ (digits 4 shard ++ (codes "_" ++ (instant_text at ++ codes ".log"))) in
    absurd (never end (append_cancel_left (codes ".hoodie/") rest (codes "metadata/" ++ end) (is ∙ same ∙ in_shard part shard (instant_text at ++ codes ".log"))))

seventeenth : List ℕ → ℕ
seventeenth path = get_or path 17 0

pub metadata_only : (path rest : List ℕ) → codes ".hoodie/metadata/.hoodie/" ++ rest ≡ path → (found : Option ObjectName) → ((at : ℕ) (kind : MetadataActionKind) (completed : Bool) → IsObjectName (Metadata at kind completed) → codes ".hoodie/metadata/.hoodie/" ++ rest ≡ object_path (Metadata at kind completed) → found ≡ Some (Metadata at kind completed)) → (name : ObjectName) → IsObjectName name → path ≡ object_path name → found ≡ Some name
unfolding object_path eighth seventeenth
metadata_only path rest is found only Config kept same = absurd (omega (arith, ap eighth (is ∙ same)))
metadata_only path rest is found only (Timeline at kind state) kept same = absurd (omega (arith, ap eighth (is ∙ same), instant_head at (timeline_ending kind state)))
metadata_only path rest is found only (Metadata at kind completed) kept same = only at kind completed kept (is ∙ same)
metadata_only path rest is found only (Base part shard upto kind) kept same =
    absurd (omega (arith, ap seventeenth (is ∙ same ∙ in_shard part shard (instant_text upto ++ base_ending kind)), part_head part (digits 4 shard ++ (codes "_" ++ (instant_text upto ++ base_ending kind)))))
metadata_only path rest is found only (Log part shard at) kept same =
    absurd (omega (arith, ap seventeenth (is ∙ same ∙ in_shard part shard (instant_text at ++ codes ".log")), part_head part (digits 4 shard ++ (codes "_" ++ (instant_text at ++ codes ".log")))))

pub shard_only : (path rest : List ℕ) → codes ".hoodie/metadata/" ++ rest ≡ path → ((more : List ℕ) → rest ≢ codes ".hoodie/" ++ more) → (found : Option ObjectName) → ((part : Part) (shard upto : ℕ) (kind : BaseKind) → IsObjectName (Base part shard upto kind) → codes ".hoodie/metadata/" ++ rest ≡ object_path (Base part shard upto kind) → found ≡ Some (Base part shard upto kind)) → ((part : Part) (shard at : ℕ) → IsObjectName (Log part shard at) → codes ".hoodie/metadata/" ++ rest ≡ object_path (Log part shard at) → found ≡ Some (Log part shard at)) → (name : ObjectName) → IsObjectName name → path ≡ object_path name → found ≡ Some name
unfolding object_path eighth
shard_only path rest is never found base log Config kept same = absurd (omega (arith, ap eighth (is ∙ same)))
shard_only path rest is never found base log (Timeline at kind state) kept same = absurd (omega (arith, ap eighth (is ∙ same), instant_head at (timeline_ending kind state)))
shard_only path rest is never found base log (Metadata at kind completed) kept same =
    absurd (never (instant_text at ++ metadata_ending kind completed) (append_cancel_left (codes ".hoodie/metadata/") rest (codes ".hoodie/" ++ (instant_text at ++ metadata_ending kind completed)) (is ∙ same)))
shard_only path rest is never found base log (Base part shard upto kind) kept same = base part shard upto kind kept (is ∙ same)
shard_only path rest is never found base log (Log part shard at) kept same = log part shard at kept (is ∙ same)

-- ---- reading a name to its end

pub found_at : (found : Option ObjectName) (object : ObjectName) (path : List ℕ) → SomeIff found (IsObjectName object) object → path ≡ object_path object → IfSome found (λ o. IsObjectName o × (path ≡ object_path o))
found_at None object path is same = tt
found_at (Some x) object path is same = (subst IsObjectName (sym is.1) is.0, same ∙ ap object_path (sym is.1))

exact_at : (found : Option ObjectName) (object target : ObjectName) → SomeIff found (IsObjectName object) object → object ≡ target → IsObjectName target → found ≡ Some target
exact_at None object target never same kept = absurd (never (subst IsObjectName (sym same) kept))
exact_at (Some x) object target is same kept = ap (λ (o : ObjectName). Some o) (is.1 ∙ same)

pub timeline_small : (at : ℕ) (kind : ActionKind) (state : ActionState) → IsObjectName (Timeline at kind state) → at < 10 ^ 17
timeline_small at kind state kept = grind (arith, nat_tests)

pub metadata_small : (at : ℕ) (kind : MetadataActionKind) (completed : Bool) → IsObjectName (Metadata at kind completed) → at < 10 ^ 17
metadata_small at kind completed kept = second_test (nat_lt 0 at || not (is_delta_commit kind)) at kept
  where
    second_test : (b : Bool) (at : ℕ) → (b && nat_lt at (10 ^ 17)) ≡ true → at < 10 ^ 17
    second_test true at is = grind (arith, nat_tests)
    second_test false at is = absurd (cc is)

pub base_small : (part : Part) (shard upto : ℕ) (kind : BaseKind) → IsObjectName (Base part shard upto kind) → (shard < 10000) × (upto < 10 ^ 17)
base_small part shard upto kind kept = (grind (arith, nat_tests), grind (arith, nat_tests))

pub log_small : (part : Part) (shard at : ℕ) → IsObjectName (Log part shard at) → (shard < 10000) × (at < 10 ^ 17)
log_small part shard at kept = (grind (arith, nat_tests), grind (arith, nat_tests))

pub timeline_name_is : (name : List ℕ) (at : ℕ) (kind : ActionKind) (state : ActionState) → codes ".hoodie/" ++ name ≡ object_path (Timeline at kind state) → name ≡ instant_text at ++ timeline_ending kind state
unfolding object_path
timeline_name_is name at kind state same = append_cancel_left (codes ".hoodie/") name (instant_text at ++ timeline_ending kind state) same

pub metadata_name_is : (name : List ℕ) (at : ℕ) (kind : MetadataActionKind) (completed : Bool) → codes ".hoodie/metadata/.hoodie/" ++ name ≡ object_path (Metadata at kind completed) → name ≡ instant_text at ++ metadata_ending kind completed
unfolding object_path
metadata_name_is name at kind completed same = append_cancel_left (codes ".hoodie/metadata/.hoodie/") name (instant_text at ++ metadata_ending kind completed) same

pub base_name_is : (name : List ℕ) (part : Part) (shard upto : ℕ) (kind : BaseKind) → codes ".hoodie/metadata/" ++ name ≡ object_path (Base part shard upto kind) → name ≡ part_front part ++ (digits 4 shard ++ (codes "_" ++ (instant_text upto ++ base_ending kind)))
unfolding object_path
base_name_is name part shard upto kind same = append_cancel_left (codes ".hoodie/metadata/") name _ (same ∙ in_shard part shard (instant_text upto ++ base_ending kind))

pub log_name_is : (name : List ℕ) (part : Part) (shard at : ℕ) → codes ".hoodie/metadata/" ++ name ≡ object_path (Log part shard at) → name ≡ part_front part ++ (digits 4 shard ++ (codes "_" ++ (instant_text at ++ codes ".log")))
unfolding object_path
log_name_is name part shard at same = append_cancel_left (codes ".hoodie/metadata/") name _ (same ∙ in_shard part shard (instant_text at ++ codes ".log"))

pub timeline_found : (found : Option ObjectName) (a : ℕ) (k : ActionKind) (s : ActionState) (name ending : List ℕ) → SomeIff found (IsObjectName (Timeline a k s)) (Timeline a k s) → name ≡ instant_text a ++ ending → ending ≡ timeline_ending k s → IfSome found (λ o. IsObjectName o × (codes ".hoodie/" ++ name ≡ object_path o))
timeline_found found a k s name ending is named ends =
    found_at found (Timeline a k s) (codes ".hoodie/" ++ name) is (ap (λ (l : List ℕ). codes ".hoodie/" ++ l) named ∙ timeline_at (Timeline a k s) a k s ending refl ends)

pub metadata_found : (found : Option ObjectName) (a : ℕ) (k : MetadataActionKind) (s : Bool) (name ending : List ℕ) → SomeIff found (IsObjectName (Metadata a k s)) (Metadata a k s) → name ≡ instant_text a ++ ending → ending ≡ metadata_ending k s → IfSome found (λ o. IsObjectName o × (codes ".hoodie/metadata/.hoodie/" ++ name ≡ object_path o))
metadata_found found a k s name ending is named ends =
    found_at found (Metadata a k s) (codes ".hoodie/metadata/.hoodie/" ++ name) is (ap (λ (l : List ℕ). codes ".hoodie/metadata/.hoodie/" ++ l) named ∙ metadata_at (Metadata a k s) a k s ending refl ends)

-- what a name that was read is, where it is that of an object
pub timeline_exact : (found : Option ObjectName) (a : ℕ) (k : ActionKind) (s : ActionState) (name ending : List ℕ) → SomeIff found (IsObjectName (Timeline a k s)) (Timeline a k s) → a < 10 ^ 17 → name ≡ instant_text a ++ ending → ((kind : ActionKind) (state : ActionState) → ending ≡ timeline_ending kind state → ◌≡◌ {A = Option (ActionKind × ActionState)} (Some (k, s)) (Some (kind, state))) → (at : ℕ) (kind : ActionKind) (state : ActionState) → IsObjectName (Timeline at kind state) → codes ".hoodie/" ++ name ≡ object_path (Timeline at kind state) → found ≡ Some (Timeline at kind state)
timeline_exact found a k s name ending is small named only at kind state kept same =
    let parts = instant-split a at ending (timeline_ending kind state) small (timeline_small at kind state kept) (sym named ∙ timeline_name_is name at kind state same) in
    let pair : ◌≡◌ {A = ActionKind × ActionState} (k, s) (kind, state) = same_Some (k, s) (kind, state) (only kind state parts.1) in
    exact_at found (Timeline a k s) (Timeline at kind state) is
    (ap (λ (n : ℕ). Timeline n k s) parts.0 ∙ ap (λ (p : ActionKind × ActionState). Timeline at p.0 p.1) pair) kept

pub metadata_exact : (found : Option ObjectName) (a : ℕ) (k : MetadataActionKind) (s : Bool) (name ending : List ℕ) → SomeIff found (IsObjectName (Metadata a k s)) (Metadata a k s) → a < 10 ^ 17 → name ≡ instant_text a ++ ending → ((kind : MetadataActionKind) (completed : Bool) → ending ≡ metadata_ending kind completed → ◌≡◌ {A = Option (MetadataActionKind × Bool)} (Some (k, s)) (Some (kind, completed))) → (at : ℕ) (kind : MetadataActionKind) (completed : Bool) → IsObjectName (Metadata at kind completed) → codes ".hoodie/metadata/.hoodie/" ++ name ≡ object_path (Metadata at kind completed) → found ≡ Some (Metadata at kind completed)
metadata_exact found a k s name ending is small named only at kind completed kept same =
    let parts = instant-split a at ending (metadata_ending kind completed) small (metadata_small at kind completed kept) (sym named ∙ metadata_name_is name at kind completed same) in
    let pair : ◌≡◌ {A = MetadataActionKind × Bool} (k, s) (kind, completed) = same_Some (k, s) (kind, completed) (only kind completed parts.1) in
    exact_at found (Metadata a k s) (Metadata at kind completed) is
    (ap (λ (n : ℕ). Metadata n k s) parts.0 ∙ ap (λ (p : MetadataActionKind × Bool). Metadata at p.0 p.1) pair) kept

pub timeline_unread : (a : ℕ) (name ending : List ℕ) → a < 10 ^ 17 → name ≡ instant_text a ++ ending → ((kind : ActionKind) (state : ActionState) → ending ≢ timeline_ending kind state) → (at : ℕ) (kind : ActionKind) (state : ActionState) → IsObjectName (Timeline at kind state) → codes ".hoodie/" ++ name ≢ object_path (Timeline at kind state)
timeline_unread a name ending small named never at kind state kept same =
    let parts = instant-split a at ending (timeline_ending kind state) small (timeline_small at kind state kept) (sym named ∙ timeline_name_is name at kind state same) in
    never kind state parts.1

pub metadata_unread : (a : ℕ) (name ending : List ℕ) → a < 10 ^ 17 → name ≡ instant_text a ++ ending → ((kind : MetadataActionKind) (completed : Bool) → ending ≢ metadata_ending kind completed) → (at : ℕ) (kind : MetadataActionKind) (completed : Bool) → IsObjectName (Metadata at kind completed) → codes ".hoodie/metadata/.hoodie/" ++ name ≢ object_path (Metadata at kind completed)
metadata_unread a name ending small named never at kind completed kept same =
    let parts = instant-split a at ending (metadata_ending kind completed) small (metadata_small at kind completed kept) (sym named ∙ metadata_name_is name at kind completed same) in
    never kind completed parts.1

pub timeline_undated : (name : List ℕ) → ((at : ℕ) (ending : List ℕ) → at < 10 ^ 17 → get_or ending 0 0 < 128 → name ≢ instant_text at ++ ending) → (at : ℕ) (kind : ActionKind) (state : ActionState) → IsObjectName (Timeline at kind state) → codes ".hoodie/" ++ name ≢ object_path (Timeline at kind state)
timeline_undated name never at kind state kept same = never at (timeline_ending kind state) (timeline_small at kind state kept) (timeline_ending-head kind state) (timeline_name_is name at kind state same)

pub metadata_undated : (name : List ℕ) → ((at : ℕ) (ending : List ℕ) → at < 10 ^ 17 → get_or ending 0 0 < 128 → name ≢ instant_text at ++ ending) → (at : ℕ) (kind : MetadataActionKind) (completed : Bool) → IsObjectName (Metadata at kind completed) → codes ".hoodie/metadata/.hoodie/" ++ name ≢ object_path (Metadata at kind completed)
metadata_undated name never at kind completed kept same = never at (metadata_ending kind completed) (metadata_small at kind completed kept) (metadata_ending-head kind completed) (metadata_name_is name at kind completed same)

-- what was read of a name of a shard
pub record IsShardName (part : Part) (shard : ℕ) (name more rest : List ℕ) : Type 0 where
  pub parted : name ≡ part_front part ++ more
  pub small : shard < 10000
  pub sharded : more ≡ digits 4 shard ++ (codes "_" ++ rest)

-- the same partition, shard and rest
pub shard_rest : (p q : Part) (s shard : ℕ) (name more rest end : List ℕ) → IsShardName p s name more rest → shard < 10000 → name ≡ part_front q ++ (digits 4 shard ++ (codes "_" ++ end)) → (p ≡ q) × (s ≡ shard) × (rest ≡ end)
shard_rest p q s shard name more rest end is small named =
    let parted = part-split p q more (digits 4 shard ++ (codes "_" ++ end)) (sym is.parted ∙ named) in
    let sharded = shard-split s shard rest end is.small small (sym is.sharded ∙ parted.1) in
    (parted.0, sharded.0, sharded.1)

pub base_found : (p : Part) (s a : ℕ) (k : BaseKind) (name more rest ending : List ℕ) → IsShardName p s name more rest → a < 10 ^ 17 → rest ≡ instant_text a ++ ending → ending ≡ base_ending k → IsObjectName (Base p s a k) × (codes ".hoodie/metadata/" ++ name ≡ object_path (Base p s a k))
base_found p s a k name more rest ending is small dated ends = (
  kept is.small,
  ap (λ (l : List ℕ). codes ".hoodie/metadata/" ++ l) (is.parted ∙ ap (λ (l : List ℕ). part_front p ++ l) (is.sharded ∙ ap (λ (l : List ℕ). digits 4 s ++ (codes "_" ++ l)) (dated ∙ ap (λ (l : List ℕ). instant_text a ++ l) ends)))
      ∙ sym (in_shard p s (instant_text a ++ base_ending k)) ∙ sym (is_base p s a k),
)
  where
    kept : s < 10000 → IsObjectName (Base p s a k)
    kept low = grind (arith, nat_tests)

pub log_found : (found : Option ObjectName) (p : Part) (s a : ℕ) (name more rest ending : List ℕ) → SomeIff found (IsObjectName (Log p s a)) (Log p s a) → IsShardName p s name more rest → rest ≡ instant_text a ++ ending → ending ≡ codes ".log" → IfSome found (λ o. IsObjectName o × (codes ".hoodie/metadata/" ++ name ≡ object_path o))
log_found found p s a name more rest ending ends_log is dated ends =
    found_at found (Log p s a) (codes ".hoodie/metadata/" ++ name) ends_log
    (ap (λ (l : List ℕ). codes ".hoodie/metadata/" ++ l) (is.parted ∙ ap (λ (l : List ℕ). part_front p ++ l) (is.sharded ∙ ap (λ (l : List ℕ). digits 4 s ++ (codes "_" ++ l)) (dated ∙ ap (λ (l : List ℕ). instant_text a ++ l) ends)))
    ∙ sym (in_shard p s (instant_text a ++ codes ".log")) ∙ sym (is_log p s a))

-- where the name of a base or log was read as far as its instant
pub base_dated : (p : Part) (s a : ℕ) (name more rest ending : List ℕ) → IsShardName p s name more rest → a < 10 ^ 17 → rest ≡ instant_text a ++ ending → (part : Part) (shard upto : ℕ) (kind : BaseKind) → IsObjectName (Base part shard upto kind) → codes ".hoodie/metadata/" ++ name ≡ object_path (Base part shard upto kind) → (p ≡ part) × (s ≡ shard) × (a ≡ upto) × (ending ≡ base_ending kind)
base_dated p s a name more rest ending is small dated part shard upto kind kept same =
    let bounds = base_small part shard upto kind kept in
    let at = shard_rest p part s shard name more rest (instant_text upto ++ base_ending kind) is bounds.0 (base_name_is name part shard upto kind same) in
    let parts = instant-split a upto ending (base_ending kind) small bounds.1 (sym dated ∙ at.2) in
    (at.0, at.1, parts.0, parts.1)

pub log_dated : (p : Part) (s a : ℕ) (name more rest ending : List ℕ) → IsShardName p s name more rest → a < 10 ^ 17 → rest ≡ instant_text a ++ ending → (part : Part) (shard at : ℕ) → IsObjectName (Log part shard at) → codes ".hoodie/metadata/" ++ name ≡ object_path (Log part shard at) → (p ≡ part) × (s ≡ shard) × (a ≡ at) × (ending ≡ codes ".log")
log_dated p s a name more rest ending is small dated part shard at kept same =
    let bounds = log_small part shard at kept in
    let here = shard_rest p part s shard name more rest (instant_text at ++ codes ".log") is bounds.0 (log_name_is name part shard at same) in
    let parts = instant-split a at ending (codes ".log") small bounds.1 (sym dated ∙ here.2) in
    (here.0, here.1, parts.0, parts.1)

pub log_exact : (found : Option ObjectName) (p part : Part) (s shard a at : ℕ) → SomeIff found (IsObjectName (Log p s a)) (Log p s a) → IsObjectName (Log part shard at) → p ≡ part → s ≡ shard → a ≡ at → found ≡ Some (Log part shard at)
log_exact found p part s shard a at is kept same_part same_shard same_at =
    exact_at found (Log p s a) (Log part shard at) is (ap (λ (q : Part). Log q s a) same_part ∙ ap (λ (n : ℕ). Log part n a) same_shard ∙ ap (λ (n : ℕ). Log part shard n) same_at) kept

pub base_exact : (p part : Part) (s shard a upto : ℕ) (k kind : BaseKind) → p ≡ part → s ≡ shard → a ≡ upto → Some k ≡ Some kind → Some (Base p s a k) ≡ Some (Base part shard upto kind)
base_exact p part s shard a upto k kind same_part same_shard same_at same_kind =
    ap (λ (q : Part). Some (Base q s a k)) same_part ∙ ap (λ (n : ℕ). Some (Base part n a k)) same_shard ∙ ap (λ (n : ℕ). Some (Base part shard n k)) same_at
    ∙ ap (λ (o : BaseKind). Some (Base part shard upto o)) (same_Some k kind same_kind)

-- where it was not read so far
pub base_unparted : (name : List ℕ) → ((part : Part) (rest : List ℕ) → name ≢ part_front part ++ rest) → (part : Part) (shard upto : ℕ) (kind : BaseKind) → codes ".hoodie/metadata/" ++ name ≢ object_path (Base part shard upto kind)
base_unparted name never part shard upto kind same = never part _ (base_name_is name part shard upto kind same)

pub log_unparted : (name : List ℕ) → ((part : Part) (rest : List ℕ) → name ≢ part_front part ++ rest) → (part : Part) (shard at : ℕ) → codes ".hoodie/metadata/" ++ name ≢ object_path (Log part shard at)
log_unparted name never part shard at same = never part _ (log_name_is name part shard at same)

pub base_unsharded : (p : Part) (name more : List ℕ) → name ≡ part_front p ++ more → ((shard : ℕ) (rest : List ℕ) → more ≢ digits 4 shard ++ (codes "_" ++ rest)) → (part : Part) (shard upto : ℕ) (kind : BaseKind) → codes ".hoodie/metadata/" ++ name ≢ object_path (Base part shard upto kind)
base_unsharded p name more parted never part shard upto kind same =
    never shard _ (part-split p part more (digits 4 shard ++ (codes "_" ++ (instant_text upto ++ base_ending kind))) (sym parted ∙ base_name_is name part shard upto kind same)).1

pub log_unsharded : (p : Part) (name more : List ℕ) → name ≡ part_front p ++ more → ((shard : ℕ) (rest : List ℕ) → more ≢ digits 4 shard ++ (codes "_" ++ rest)) → (part : Part) (shard at : ℕ) → codes ".hoodie/metadata/" ++ name ≢ object_path (Log part shard at)
log_unsharded p name more parted never part shard at same =
    never shard _ (part-split p part more (digits 4 shard ++ (codes "_" ++ (instant_text at ++ codes ".log"))) (sym parted ∙ log_name_is name part shard at same)).1

pub base_undated : (p : Part) (s : ℕ) (name more rest : List ℕ) → IsShardName p s name more rest → ((at : ℕ) (ending : List ℕ) → at < 10 ^ 17 → get_or ending 0 0 < 128 → rest ≢ instant_text at ++ ending) → (part : Part) (shard upto : ℕ) (kind : BaseKind) → IsObjectName (Base part shard upto kind) → codes ".hoodie/metadata/" ++ name ≢ object_path (Base part shard upto kind)
base_undated p s name more rest is never part shard upto kind kept same =
    let bounds = base_small part shard upto kind kept in
    never upto (base_ending kind) bounds.1 (base_ending-head kind) (shard_rest p part s shard name more rest (instant_text upto ++ base_ending kind) is bounds.0 (base_name_is name part shard upto kind same)).2

pub log_undated : (p : Part) (s : ℕ) (name more rest : List ℕ) → IsShardName p s name more rest → ((at : ℕ) (ending : List ℕ) → at < 10 ^ 17 → get_or ending 0 0 < 128 → rest ≢ instant_text at ++ ending) → (part : Part) (shard at : ℕ) → IsObjectName (Log part shard at) → codes ".hoodie/metadata/" ++ name ≢ object_path (Log part shard at)
log_undated p s name more rest is never part shard at kept same =
    let bounds = log_small part shard at kept in
    never at (codes ".log") bounds.1 (lit< tt) (shard_rest p part s shard name more rest (instant_text at ++ codes ".log") is bounds.0 (log_name_is name part shard at same)).2
