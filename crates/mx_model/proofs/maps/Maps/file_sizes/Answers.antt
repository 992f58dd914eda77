use Rattle.std.proofs.Common.{◌≡◌, IfOk, sym, ◌∙◌, ap, subst, Some, None}
use Rattle.mx_merge.specs.Shown.{SizeMap}
use Rattle.mx_model.specs.Answer.{file_sizes}
use Rattle.mx_model.proofs.TreeLemmas.{sizes_in-tree, file_sizes-empty}
use Rattle.mx_model.proofs.maps.Maps.file_sizes.Goals as goal

pub returns-in-Some : goal.returns-in-Some
returns-in-Some c =
    let sizes = sizes_in-tree c.self.inside.partitions c.args.self.now c.self.view_is c.args.partition.now (Some c.in-Some.sizes.now) c.in-Some.ensures.value in
    subst (λ (s : SizeMap). IfOk c.names_and_sizes.result (λ files. files ≡ file_sizes s)) (sym sizes) c.names_and_sizes.ensures

pub returns-in-None : goal.returns-in-None
returns-in-None c =
    let sizes = sizes_in-tree c.self.inside.partitions c.args.self.now c.self.view_is c.args.partition.now None c.in-None.ensures.value in
    c.new.ensures ∙ sym (ap file_sizes sizes ∙ file_sizes-empty)
