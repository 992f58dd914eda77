-- Objects of their kinds.
use Rattle.std.proofs.Common.{◌≡◌, ℕ, Bool, List, Some, IfOk, Result, Ok, Err, sym, ◌∙◌, subst}
use Rattle.std.specs.Prelude.{Contains}
use Rattle.std.specs.declared.alloc.AllocError.{AllocError}
use Rattle.mx_base.specs.Objects.{IsObjectName, object_path}
use Rattle.mx_base.specs.declared.object_name.ObjectName.{ObjectName}
use Rattle.mx_base.specs.declared.part.Part.{Part}
use Rattle.mx_base.proofs.ObjectLemmas.{object_path-injective}
use Rattle.mx_store.specs.Objects.{Objects, at_path}
use Rattle.mx_folder.specs.Reading.{IsAvailable, Reads}
use Rattle.mx_folder.specs.Folder.{IsObjectAt}
use Rattle.mx_open.specs.Deciding.{Decides, IsContext, IsFine}
use Rattle.mx_open.specs.declared.context.Context.{Context}
use Rattle.mx_open.proofs.KindLemmas.{decides_as, same_value}

-- the same of what a call answers
pub answers_as : (r : Result Bool AllocError) (P Q : Type 0) → (P → Q) → (Q → P) → IfOk r (λ b. Decides b P) → IfOk r (λ b. Decides b Q)
answers_as (Ok b) P Q there back said = decides_as b P Q there back said
answers_as (Err e) P Q there back said = tt

pub object_if : (o : Objects) (path bytes : List ℕ) (name : ObjectName) → IsObjectName name → path ≡ object_path name → (r : Result Bool AllocError) → IfOk r (λ b. Decides b (Reads o name bytes)) → IfOk r (λ b. Decides b (IsObjectAt o path bytes))
object_if o path bytes name is_name path_is r said = answers_as r (Reads o name bytes) (IsObjectAt o path bytes)
    (λ reads. record { name = name; is_name = is_name; path_is = path_is; reads = reads })
    (λ (object : IsObjectAt o path bytes). subst (λ (n : ObjectName). Reads o n bytes) (object_path-injective object.name name object.is_name is_name (sym object.path_is ∙ path_is)) object.reads) said

pub fine_if : (o : Objects) (path bytes : List ℕ) → Some bytes ≡ at_path o path → (r : Result Bool AllocError) → IfOk r (λ b. Decides b (IsObjectAt o path bytes)) → IfOk r (λ b. Decides b (IsFine o path))
fine_if o path bytes stands r said = answers_as r (IsObjectAt o path bytes) (IsFine o path)
    (λ object other is. subst (IsObjectAt o path) (same_value bytes other (stands ∙ is)) object) (λ fine. fine bytes (sym stands)) said

-- what is asked of a part that can be read
pub asked_if : (o : Objects) (context : Context) (part : Part) (r : Result Bool AllocError) (P : Type 0) → IsContext o context → Contains context.available part → IfOk r (λ b. Decides b P) → IfOk r (λ b. Decides b (IsAvailable o part → P))
asked_if o context part r P is among said = answers_as r P (IsAvailable o part → P) (λ p _. p) (λ given. given (is.only_available part among)) said
