-- What objects are to be says the same where the config and the object of the first base are the same.
use Rattle.std.proofs.Common.{◌≡◌, ℕ, List, Option, IsSome, IfSome, sym, ◌∙◌, ap, subst}
use Rattle.std.specs.Prelude.{option_and_then}
use Rattle.std.proofs.lemmas.List.Elements.{All-weaker}
use Rattle.mx_base.specs.declared.object_name.ActionKind.TheVariants as action
use Rattle.mx_base.specs.declared.object_name.BaseKind.TheVariants as base
use Rattle.mx_base.specs.declared.object_name.MetadataActionKind.TheVariants as metadata
use Rattle.mx_base.specs.declared.object_name.ObjectName.{ObjectName}
use Rattle.mx_base.specs.declared.object_name.ObjectName.TheVariants.{Config, Timeline, Metadata, Base, Log}
use Rattle.mx_base.specs.declared.part.Part.{Part}
use Rattle.mx_store.specs.Objects.{Objects}
use Rattle.mx_meta.specs.ShardFiles.{base_meta_of}
use Rattle.mx_folder.specs.Named.{object_at, first_bases}
use Rattle.mx_folder.specs.Reading.{Reads, ReadsAsConfig, IsAvailable, HasBase, named_bases}

module _ (o n : Objects) (config_same : object_at n Config ≡ object_at o Config) (bases_same : object_at n first_bases ≡ object_at o first_bases) where
  pub available_from : (part : Part) → IsAvailable n part → IsAvailable o part
  available_from part is = (is.0, is.1, sym config_same ∙ is.2, is.3)

  pub named_bases-same : named_bases n ≡ named_bases o
  named_bases-same = ap (λ (x : Option (List ℕ)). option_and_then base_meta_of x) bases_same

  has_base : (part : Part) → HasBase o part → HasBase n part
  has_base part has = (has.0, has.1, named_bases-same ∙ has.2, has.3, has.4)

  reads_config : (bytes : List ℕ) → ReadsAsConfig o bytes → ReadsAsConfig n bytes
  reads_config bytes reads = record {
    config = reads.config;
    is_config = reads.is_config;
    text = reads.text;
    based = λ h. All-weaker (HasBase o) (HasBase n) has_base reads.config.available (reads.based (subst (λ (x : Option (List ℕ)). IfSome x (λ meta. IsSome (base_meta_of meta))) bases_same h));
  }

  pub reads_same : (name : ObjectName) (bytes : List ℕ) → Reads o name bytes → Reads n name bytes
  reads_same Config bytes reads = reads_config bytes reads
  reads_same (Timeline at action.Commit state) bytes reads = reads
  reads_same (Timeline at action.Clean state) bytes reads = reads
  reads_same (Timeline at action.Rollback state) bytes reads = reads
  reads_same (Timeline at action.Indexing state) bytes reads = reads
  reads_same (Metadata at metadata.DeltaCommit completed) bytes reads = reads
  reads_same (Metadata at metadata.Indexing completed) bytes reads = reads
  reads_same (Metadata at metadata.Compaction completed) bytes reads = reads
  reads_same (Metadata at metadata.Clean completed) bytes reads = reads
  reads_same (Base part shard upto base.Indexing) bytes reads = (reads.0, λ available. reads.1 (available_from part available))
  reads_same (Base part shard upto base.Compaction) bytes reads = reads
  reads_same (Log part shard at) bytes reads = λ available. reads (available_from part available)
