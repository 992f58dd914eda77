-- What the config and the object of the first base say.
use Rattle.std.proofs.Common.{◌≡◌, ℕ, Bool, true, false, List, refl, sym, subst}
use Rattle.std.specs.Prelude.{All, Contains}
use Rattle.std.proofs.lemmas.List.Elements.{All-weaker}
use Rattle.mx_base.specs.declared.part.Part.{Part}
use Rattle.mx_props.specs.Config.{Config, IsConfig, config_text}
use Rattle.mx_store.specs.Objects.{Objects}
use Rattle.mx_folder.specs.Reading.{ReadsAsConfig, HasBase}
use Rattle.mx_open.specs.Deciding.{Decides, HasBaseIn, IsContext}
use Rattle.mx_open.specs.declared.context.Context.{Context}
use Rattle.mx_open.proofs.KindLemmas.{decides_as}

not_true : (b : Bool) → ¬ (b ≡ true) → b ≡ false
not_true true not = absurd (not refl)
not_true false not = refl

module _ (o : Objects) (context : Context) (is : IsContext o context) where
  based_from : (part : Part) → HasBaseIn context.bases part → HasBase o part
  based_from part has = let counts = is.only_bases has.0 has.1 in (counts.0, has.0, counts.1, counts.2, has.2)

  based_in : (part : Part) → HasBase o part → HasBaseIn context.bases part
  based_in part has = (has.1, subst (λ (bases : List (List ℕ)). Contains bases has.1) (is.bases has.0 has.2) has.3, has.4)

  pub config_read : (bytes : List ℕ) (props : Config) (b : Bool) → IsConfig props → bytes ≡ config_text props → ((config : Config) → IsConfig config → bytes ≡ config_text config → props ≡ config) →
      Decides b (context.unread ≡ false → All (HasBaseIn context.bases) props.available) → Decides b (ReadsAsConfig o bytes)
  config_read bytes props b is_config text only said = decides_as b (context.unread ≡ false → All (HasBaseIn context.bases) props.available) (ReadsAsConfig o bytes) there back said
    where
      there : (context.unread ≡ false → All (HasBaseIn context.bases) props.available) → ReadsAsConfig o bytes
      there met = record {
        config = props;
        is_config = is_config;
        text = text;
        based = λ reads. All-weaker (HasBaseIn context.bases) (HasBase o) based_from props.available (met (not_true context.unread (λ unread. is.unread unread reads)));
      }

      back : ReadsAsConfig o bytes → context.unread ≡ false → All (HasBaseIn context.bases) props.available
      back reads read =
          All-weaker (HasBase o) (HasBaseIn context.bases) based_in props.available
          (subst (λ (config : Config). All (HasBase o) config.available) (sym (only reads.config reads.is_config reads.text)) (reads.based (is.read read)))
