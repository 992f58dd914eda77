-- Objects that name logs or bases have no float, nest little, and read back.
use Rattle.std.proofs.Common.{◌≡◌, ℕ, ◌≤◌, ◌<◌, ◌^◌, Bool, true, false, List, Result, Some, None, All, refl, ap, ◌∙◌, arith}
use Rattle.std.specs.Prelude.{IsUtf8, IfOk, if◌then◌else◌}
use Rattle.serde_json.specs.Data.{Data, string, depth}
use Rattle.serde_json.specs.Read.{read}
use Rattle.serde_json.specs.Written.{has_float}
use Rattle.mx_base.specs.Digits.{instant_text}
use Rattle.mx_base.specs.Names.{IsPath}
use Rattle.mx_meta.specs.declared.places.ShardFile.{ShardFile}
use Rattle.mx_meta.specs.declared.places.ShardFile.TheVariants.{Log, Base}
use Rattle.mx_meta.specs.Json.{paths_data, instant_in, passing}
use Rattle.mx_meta.specs.Places.{stands_in_order}
use Rattle.mx_meta.specs.Views.{Bases}
use Rattle.mx_meta.specs.ShardFiles.{shard_files_in, delta_meta_data, delta_meta_in, delta_meta_of, base_meta_data, base_meta_in, base_meta_of}
use Rattle.mx_meta.proofs.JsonLemmas.{neither}
use Rattle.mx_meta.proofs.NameLemmas.{instant_in-instant_text}
use Rattle.mx_meta.proofs.PathListLemmas.{read_again, paths_no_float, paths_depth, paths_in-paths_data}

shard_files_back : (file : ShardFile) (paths : List (List ℕ)) → All IsPath paths → stands_in_order file paths ≡ true → shard_files_in file (paths_data paths) ≡ Some paths
unfolding shard_files_in
shard_files_back file paths names order =
    ap (passing (stands_in_order file)) (paths_in-paths_data paths names) ∙ ap (λ (b : Bool). if b then Some paths else None) order

-- ---- logs

pub delta_meta_data-no_float : (logs : List (List ℕ)) → has_float (delta_meta_data logs) ≡ false
unfolding delta_meta_data
delta_meta_data-no_float logs = neither (has_float (paths_data logs)) false (paths_no_float logs) refl

pub depth-delta_meta_data : (logs : List (List ℕ)) → depth (delta_meta_data logs) ≤ 127
unfolding delta_meta_data
depth-delta_meta_data logs = omega (arith, paths_depth logs)

pub delta_meta_again : {E : Type 0} (r : Result (List ℕ) E) (logs : List (List ℕ)) (d : Data) → d ≡ delta_meta_data logs → IfOk r (λ bytes. IsUtf8 bytes) → IfOk r (λ bytes. read bytes ≡ Some d) →
    All IsPath logs → stands_in_order Log logs ≡ true → IfOk r (λ bytes. delta_meta_of bytes ≡ Some logs)
unfolding delta_meta_of delta_meta_in delta_meta_data
delta_meta_again r logs d is utf8 reads names order =
    let back : shard_files_in Log (paths_data logs) ≡ Some logs = shard_files_back Log logs names order in
    read_again delta_meta_in logs r d (delta_meta_data logs) is utf8 reads refl (rw back (rw back refl))

-- ---- bases up to an instant

pub base_meta_data-no_float : (meta : Bases) → has_float (base_meta_data meta) ≡ false
unfolding base_meta_data
base_meta_data-no_float meta = neither (has_float (paths_data meta.bases)) false (paths_no_float meta.bases) refl

pub depth-base_meta_data : (meta : Bases) → depth (base_meta_data meta) ≤ 127
unfolding base_meta_data
depth-base_meta_data meta = omega (arith, paths_depth meta.bases)

pub base_meta_again : {E : Type 0} (r : Result (List ℕ) E) (meta : Bases) (d : Data) → d ≡ base_meta_data meta → IfOk r (λ bytes. IsUtf8 bytes) → IfOk r (λ bytes. read bytes ≡ Some d) →
    All IsPath meta.bases → stands_in_order Base meta.bases ≡ true → meta.upto < 10 ^ 17 → IfOk r (λ bytes. base_meta_of bytes ≡ Some meta)
unfolding base_meta_of base_meta_in base_meta_data
base_meta_again r meta d is utf8 reads names order bound =
    let bases : shard_files_in Base (paths_data meta.bases) ≡ Some meta.bases = shard_files_back Base meta.bases names order in
    let upto : instant_in (string (instant_text meta.upto)) ≡ Some meta.upto = instant_in-instant_text meta.upto bound in
    read_again base_meta_in meta r d (base_meta_data meta) is utf8 reads refl (rw (bases, upto) (rw (bases, upto) refl))
