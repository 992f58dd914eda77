-- Replies hold no float.
use Rattle.std.proofs.Common.{◌≡◌, ℕ, List, [], ◌∷◌, map, false, refl, ap}
use Rattle.std.specs.Prelude.{◌||◌}
use Rattle.serde_json.specs.View.{items_of}
use Rattle.serde_json.specs.Written.{has_float, items_have_float}
use Rattle.mx_text.proofs.TextLists.{texts-no_float}
use Rattle.mx_ask.specs.declared.reply.FileSize.{FileSize}
use Rattle.mx_ask.specs.declared.reply.Refusal.{Refusal}
use Rattle.mx_ask.specs.declared.reply.Reply.{Reply}
use Rattle.mx_ask.specs.Replies.{size_data, refusal_data, reply_data}

sizes_no_float : (files : List FileSize) → items_have_float (items_of (map size_data files)) ≡ false
sizes_no_float [] = refl
sizes_no_float (f ∷ fs) = sizes_no_float fs

refusal_data_no_float : (refusal : Refusal) (seq : ℕ) → has_float (refusal_data refusal seq) ≡ false
refusal_data_no_float Refusal.Line seq = refl
refusal_data_no_float Refusal.InstantsUsedUp seq = refl
refusal_data_no_float Refusal.NoMemory seq = refl
refusal_data_no_float Refusal.StoreFault seq = refl
refusal_data_no_float (Refusal.Changed path) seq = refl
refusal_data_no_float (Refusal.TooMany what count) seq = refl
refusal_data_no_float (Refusal.DuplicateGroup partition file) seq = refl
refusal_data_no_float (Refusal.BadRow file row column) seq = refl
refusal_data_no_float (Refusal.DuplicateRow key) seq = refl
refusal_data_no_float (Refusal.TooLarge bytes) seq = refl
refusal_data_no_float (Refusal.Expired floor) seq = refl

pub reply_data_no_float : (reply : Reply) (seq : ℕ) → has_float (reply_data reply seq) ≡ false
reply_data_no_float (Reply.Committed at files) seq = ap (λ b. b || false) (texts-no_float files)
reply_data_no_float (Reply.Files at files) seq = ap (λ b. b || false) (sizes_no_float files)
reply_data_no_float (Reply.Partitions at partitions) seq = ap (λ b. b || false) (texts-no_float partitions)
reply_data_no_float (Reply.Refused refusal) seq = refusal_data_no_float refusal seq
