use Rattle.std.proofs.Common.{ℕ, List, ◌∙◌, sym, subst, map, length}
use Rattle.mx_payload.specs.declared.payload.NameWord.{NameWord}
use Rattle.mx_payload.specs.Rules.{IsLong, AreWords, plain}
use Rattle.mx_merge.specs.Said.{IsKept}
use Rattle.mx_merge.proofs.SizeLemmas.{names_are, words_are}
use Rattle.mx_merge.proofs.run.Run.shown.Goals as goal

pub returns-in_ok-names-in-Partitions-clause-kept : goal.returns-in_ok-names-in-Partitions-clause-kept
returns-in_ok-names-in-Partitions-clause-kept c =
    let sizes = c.in-Partitions.sizes in
    let names = c.in_ok-names-in-Partitions.names.items in
    let is = c.in_ok-names-in-Partitions.ensures.names in
    subst (λ (ns : List (List ℕ)). AreWords (map plain ns)) (sym (c.from_vec.ensures ∙ is))
    (names_are sizes (subst IsKept c.in-Partitions.is c.requires) (subst (λ (ns : List (List ℕ)). IsLong (length ns)) is c.in_ok-names-in-Partitions.ensures.fits))

pub returns-in_ok-words-in-Files-clause-kept : goal.returns-in_ok-words-in-Files-clause-kept
returns-in_ok-words-in-Files-clause-kept c =
    let sizes = c.in-Files.sizes in
    let is = c.in_ok-words-in-Files.ensures.words in
    subst AreWords (sym (c.from_vec-in-Files.ensures ∙ is))
    (words_are sizes (subst IsKept c.in-Files.is c.requires) (subst (λ (ws : List NameWord). IsLong (length ws)) is c.in_ok-words-in-Files.ensures.fits))
