use Rattle.std.proofs.Common.{◌≡◌, ◌∙◌, ap, rules, map, List, ℕ, nat_eq}
use Rattle.std.specs.List.{filter, starts_with}
use Rattle.std.specs.BTreeMap as tree
use Rattle.std.specs.Map.Iter.{deref}
use Rattle.std.proofs.lemmas.Map.Iter.{iter_end}
use Rattle.mx_store.specs.Memory.{Seen}
use Rattle.mx_store.specs.Objects.{objects_of, paths_with}
use Rattle.mx_store.proofs.Mirror.{mirrors-keys}
use Rattle.mx_store.proofs.memory.MemStore.listed.Goals as goal

pub returns : goal.returns
returns c =
    let ks = mirrors-keys c.self.inside.objects c.self.inside.changes.items c.self.invariant.0 c.keys-path-items.ensures.ordered in
    let all : map deref c.loop-path.yielded ≡ tree.keys c.self.inside.objects = search (rules, iter_end) in
    let keep : List (List ℕ) → List (List ℕ) = λ ps. filter (λ path. starts_with nat_eq path c.args.prefix.now) ps in
    c.loop-path.invariant ∙ ap keep (all ∙ ks) ∙ ap (λ (s : Seen). paths_with c.args.prefix.now (objects_of s.changes)) c.self.view_is
