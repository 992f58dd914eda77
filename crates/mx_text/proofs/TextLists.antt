-- A list of texts as JSON holds no float and nests nothing.
use Rattle.std.proofs.Common.{◌≡◌, ℕ, List, [], ◌∷◌, map, false, refl}
use Rattle.serde_json.specs.Data.{string, items_depth}
use Rattle.serde_json.specs.View.{items_of}
use Rattle.serde_json.specs.Written.{items_have_float}

pub texts-no_float : (texts : List (List ℕ)) → items_have_float (items_of (map string texts)) ≡ false
texts-no_float [] = refl
texts-no_float (text ∷ texts) = texts-no_float texts

pub texts-depth : (texts : List (List ℕ)) → items_depth (items_of (map string texts)) ≡ 0
texts-depth [] = refl
texts-depth (text ∷ texts) = rw (texts-depth texts)
