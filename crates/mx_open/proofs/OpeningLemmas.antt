-- What the config says, and which objects are held.
use Rattle.std.proofs.Common.{◌≡◌, ℕ, Bool, true, false, List, [], Option, Some, None, IsSome, IfSome, Result, Ok, Err, arith, refl, sym, ◌∙◌, ap, subst}
use Rattle.std.specs.Prelude.{Contains, option_and_then}
use Rattle.mx_base.specs.Objects.{object_path}
use Rattle.mx_base.specs.declared.object_name.ObjectName.{ObjectName}
use Rattle.mx_base.specs.declared.object_name.ObjectName.TheVariants.{Config}
use Rattle.mx_base.proofs.ObjectLemmas.{object_path-injective}
use Rattle.mx_base.specs.declared.part.Part.{Part}
use Rattle.mx_meta.specs.ShardFiles.{base_meta_of}
use Rattle.mx_meta.specs.Views.{Bases}
use Rattle.mx_props.specs.Config as config
use Rattle.mx_props.specs.Config.{config_text}
use Rattle.mx_props.proofs.ConfigLemmas.{only}
use Rattle.mx_props.specs.Version.{GivesAnother}
use Rattle.mx_store.specs.Objects.{Objects, at_path}
use Rattle.mx_folder.specs.Named.{object_at, first_bases}
use Rattle.mx_folder.specs.Reading.{IsAvailable, Reads, ReadsAsConfig, named_bases}
use Rattle.mx_folder.proofs.NamedLemmas.{object_at-is, is_some_same}
use Rattle.mx_open.specs.Deciding.{AreBases, IsContext, IsSaid, IsUnharmed, available_of}
use Rattle.mx_open.specs.Opening.{IsCurrent, IsOfVersion, SaysConfig, OpensHeld}
use Rattle.mx_open.specs.declared.error.ReadError.{ReadError}
use Rattle.mx_open.specs.declared.error.ReadError.TheVariants.{NotATable, Version, Damaged, StoreFault, NoMemory}
use Rattle.mx_open.specs.declared.folder.Folder.{Folder}
use Rattle.mx_open.proofs.KindLemmas.{same_value}

pub is_current : (o : Objects) (bytes : List ℕ) → object_at o Config ≡ Some bytes → ((found : ℕ) → ¬ (GivesAnother bytes found)) → IsCurrent o
is_current o bytes stands not = record {
  stands = is_some_same _ _ stands refl;
  version = λ found other. not found (subst (λ (b : List ℕ). GivesAnother b found) (same_value other.0 bytes (sym other.1 ∙ stands)) other.2);
}

pub config_stands : (o : Objects) (path held bytes : List ℕ) → path ≡ object_path Config → Some held ≡ at_path o path → bytes ≡ held → object_at o Config ≡ Some bytes
config_stands o path held bytes is found same = object_at-is o Config refl ∙ ap (at_path o) (sym is) ∙ sym found ∙ ap (λ (b : List ℕ). Some b) (sym same)

pub of_version : (o : Objects) (bytes : List ℕ) (found wide : ℕ) → object_at o Config ≡ Some bytes → GivesAnother bytes found → wide ≡ found → IsOfVersion o wide
of_version o bytes found wide stands gives same = (bytes, stands, subst (GivesAnother bytes) (sym same) gives)

-- ---- the bases

module _ (o : Objects) where
  pub bases_absent : (path : List ℕ) → path ≡ object_path first_bases → None ≡ at_path o path → AreBases o [] false
  bases_absent path is none =
      let absent : object_at o first_bases ≡ None = object_at-is o first_bases refl ∙ ap (at_path o) (sym is) ∙ sym none in
      record {
        named = λ meta named. absurd (cc (sym (ap (λ (x : Option (List ℕ)). option_and_then base_meta_of x) absent) ∙ named));
        only = λ path among. absurd (omega (arith, among.1));
        damaged = λ is. absurd (cc is);
        whole = λ _. subst (λ (x : Option (List ℕ)). IfSome x (λ meta. IsSome (base_meta_of meta))) (sym absent) tt;
      }

  pub bases_none : (path : List ℕ) (paths : List (List ℕ)) → path ≡ object_path first_bases → None ≡ at_path o path → paths ≡ [] → AreBases o paths false
  bases_none path paths is none same = subst (λ (ps : List (List ℕ)). AreBases o ps false) (sym same) (bases_absent path is none)

  pub bases_read : (bytes : List ℕ) (meta : Bases) (paths : List (List ℕ)) → object_at o first_bases ≡ Some bytes → base_meta_of bytes ≡ Some meta → paths ≡ meta.bases → AreBases o paths false
  bases_read bytes meta paths stands reads same =
      let named : named_bases o ≡ Some meta = ap (λ (x : Option (List ℕ)). option_and_then base_meta_of x) stands ∙ reads in
      record {
        named = λ other is. ap (λ (m : Bases). m.bases) (same_value other meta (sym is ∙ named)) ∙ sym same;
        only = λ path among. (meta, named, subst (λ (ps : List (List ℕ)). Contains ps path) same among);
        damaged = λ is. absurd (cc is);
        whole = λ _. subst (λ (x : Option (List ℕ)). IfSome x (λ meta. IsSome (base_meta_of meta))) (sym stands) (is_some_same _ _ reads refl);
      }

  pub bases_bad : (bytes : List ℕ) → object_at o first_bases ≡ Some bytes → base_meta_of bytes ≡ None → AreBases o [] true
  bases_bad bytes stands bad = record {
    named = λ meta named. absurd (cc (sym (ap (λ (x : Option (List ℕ)). option_and_then base_meta_of x) stands ∙ bad) ∙ named));
    only = λ path among. absurd (omega (arith, among.1));
    damaged = λ _ whole. absurd (cc (subst IsSome bad (subst (λ (x : Option (List ℕ)). IfSome x (λ meta. IsSome (base_meta_of meta))) stands whole)));
    whole = λ is. absurd (cc is);
  }

  pub bases_stand : (path held bytes : List ℕ) → path ≡ object_path first_bases → Some held ≡ at_path o path → bytes ≡ held → object_at o first_bases ≡ Some bytes
  bases_stand path held bytes is found same = object_at-is o first_bases refl ∙ ap (at_path o) (sym is) ∙ sym found ∙ ap (λ (b : List ℕ). Some b) (sym same)

  pub is_context : (said : Option config.Config) (available : List Part) (bases : List (List ℕ)) (unread : Bool) → IsSaid o said → available ≡ available_of said → AreBases o bases unread →
      IsContext o (record { available = available; bases = bases; unread = unread })
  is_context said available bases unread says same are = record {
    available = λ part is. subst (λ (parts : List Part). Contains parts part) (sym same) (lists said says part is);
    only_available = λ part among. listed said says part (subst (λ (parts : List Part). Contains parts part) same among);
    bases = are.named;
    only_bases = are.only;
    unread = are.damaged;
    read = are.whole;
  }
    where
      lists : (said : Option config.Config) → IsSaid o said → (part : Part) → IsAvailable o part → Contains (available_of said) part
      lists None says part is = absurd (says is.0 is.1 is.2)
      lists (Some c) says part is =
          let same : config_text c ≡ config_text is.0 = same_value (config_text c) (config_text is.0) (sym says.1 ∙ is.2) in
          let one : c ≡ is.0 = only (config_text c) is.0 (Ok c) is.1 same (says.0, refl) tt in
          subst (λ (d : config.Config). Contains d.available part) (sym one) is.3

      listed : (said : Option config.Config) → IsSaid o said → (part : Part) → Contains (available_of said) part → IsAvailable o part
      listed None says part among = absurd (omega (arith, among.1))
      listed (Some c) says part among = (c, says.0, says.1, among)

-- ---- what is found in the objects

pub config_err : (o : Objects) (names others : List (List ℕ)) (r : Result (Option config.Config) ReadError) (s : Result Folder ReadError) (e : ReadError) → r ≡ Err e → s ≡ Err e → SaysConfig o r → OpensHeld o names others s
config_err o names others r s e fails ends says = subst (OpensHeld o names others) (sym ends) (from e (subst (SaysConfig o) fails says))
  where
    from : (e : ReadError) → SaysConfig o (Err e) → OpensHeld o names others (Err e)
    from NotATable says = says
    from (Version found) says = says
    from (Damaged path) says = absurd says
    from StoreFault says = absurd says
    from NoMemory says = says

-- what was read of the config
pub said_of : (o : Objects) (x : Option config.Config) → SaysConfig o (Ok x) → IsSaid o x
said_of o None says = says.1
said_of o (Some c) says = (says.1, says.2)

pub current_of : (o : Objects) (x : Option config.Config) → SaysConfig o (Ok x) → IsCurrent o
current_of o None says = says.0
current_of o (Some c) says = says.0

-- a config that does not read is damage
pub config_damaged : (o : Objects) → SaysConfig o (Ok None) → ((path : List ℕ) → IsUnharmed o path) → ⊥
config_damaged o says all = from (object_at o Config) refl says.0.stands
  where
    from : (x : Option (List ℕ)) → object_at o Config ≡ x → IsSome x → ⊥
    from None is stands = absurd (cc stands)
    from (Some bytes) is stands =
        let object = (all (object_path Config)).0 bytes (sym (object_at-is o Config refl) ∙ is) in
        let reads : ReadsAsConfig o bytes = subst (λ (name : ObjectName). Reads o name bytes) (object_path-injective object.name Config object.is_name refl (sym object.path_is)) object.reads in
        says.1 reads.config reads.is_config (is ∙ ap (λ (b : List ℕ). Some b) reads.text)
