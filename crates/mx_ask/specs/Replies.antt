-- Replies as JSON, each with the number of changes that stood when it was decided.
use Rattle.std.specs.Prelude.{ℕ, List, map, codes}
use Rattle.serde_json.specs.Data.{Data, number, string, array, object, no_members, member, unsigned}
use Rattle.serde_json.specs.View.{items_of}
use Rattle.serde_json.specs.Written.{compact_text}
use Rattle.mx_base.specs.Digits.{instant_text}
use Rattle.mx_ask.specs.declared.reply.FileSize.{FileSize}
use Rattle.mx_ask.specs.declared.reply.Limit.{Limit}
use Rattle.mx_ask.specs.declared.reply.Refusal.{Refusal}
use Rattle.mx_ask.specs.declared.reply.Reply.{Reply}

-- a refusal that is told by a word
abbrev pub plain_refusal : List ℕ → ℕ → Data
plain_refusal word seq = object (member (codes "refused") (string word) (member (codes "seq") (number (unsigned seq)) no_members))

-- the word for what there is too much of
abbrev pub limit_word : Limit → List ℕ
limit_word Limit.Files = codes "files"
limit_word Limit.Rows = codes "rows"
limit_word Limit.Instants = codes "instants"
limit_word Limit.Live = codes "live"

-- the JSON value that a refusal is
abbrev pub refusal_data : Refusal → ℕ → Data
refusal_data Refusal.Line seq = plain_refusal (codes "line") seq
refusal_data Refusal.InstantsUsedUp seq = plain_refusal (codes "InstantsUsedUp") seq
refusal_data Refusal.NoMemory seq = plain_refusal (codes "NoMemory") seq
refusal_data Refusal.StoreFault seq = plain_refusal (codes "StoreFault") seq
refusal_data (Refusal.Changed path) seq =
    object (member (codes "path") (string path) (member (codes "refused") (string (codes "Changed")) (member (codes "seq") (number (unsigned seq)) no_members)))
refusal_data (Refusal.TooMany what count) seq =
    object (member (codes "count") (number (unsigned count)) (member (codes "refused") (string (codes "TooMany")) (member (codes "seq") (number (unsigned seq)) (member (codes "what") (string (limit_word what)) no_members))))
refusal_data (Refusal.DuplicateGroup partition file) seq =
    object (member (codes "file") (string file) (member (codes "partition") (string partition) (member (codes "refused") (string (codes "DuplicateGroup")) (member (codes "seq") (number (unsigned seq)) no_members))))
refusal_data (Refusal.BadRow file row column) seq =
    object (member (codes "column") (number (unsigned column)) (member (codes "file") (number (unsigned file)) (member (codes "refused") (string (codes "BadRow")) (member (codes "row") (number (unsigned row)) (member (codes "seq") (number (unsigned seq)) no_members)))))
refusal_data (Refusal.DuplicateRow key) seq =
    object (member (codes "key") (string key) (member (codes "refused") (string (codes "DuplicateRow")) (member (codes "seq") (number (unsigned seq)) no_members)))
refusal_data (Refusal.TooLarge bytes) seq =
    object (member (codes "bytes") (number (unsigned bytes)) (member (codes "refused") (string (codes "TooLarge")) (member (codes "seq") (number (unsigned seq)) no_members)))
refusal_data (Refusal.Expired floor) seq =
    object (member (codes "floor") (string (instant_text floor)) (member (codes "refused") (string (codes "Expired")) (member (codes "seq") (number (unsigned seq)) no_members)))

-- a file with its size
abbrev pub size_data : FileSize → Data
size_data file = object (member (codes "name") (string file.name) (member (codes "size") (number (unsigned file.size)) no_members))

-- the JSON value that a reply is, names in the order of their bytes
abbrev pub reply_data : Reply → ℕ → Data
reply_data (Reply.Committed at files) seq =
    object (member (codes "files") (array (items_of (map string files))) (member (codes "instant") (string (instant_text at)) (member (codes "ok") (string (codes "commit")) (member (codes "seq") (number (unsigned seq)) no_members))))
reply_data (Reply.Files at files) seq =
    object (member (codes "at") (string (instant_text at)) (member (codes "files") (array (items_of (map size_data files))) (member (codes "ok") (string (codes "files")) (member (codes "seq") (number (unsigned seq)) no_members))))
reply_data (Reply.Partitions at partitions) seq =
    object (member (codes "at") (string (instant_text at)) (member (codes "ok") (string (codes "partitions")) (member (codes "partitions") (array (items_of (map string partitions))) (member (codes "seq") (number (unsigned seq)) no_members))))
reply_data (Reply.Refused refusal) seq = refusal_data refusal seq

-- the line of a reply, without its newline
unfoldable pub reply_text : Reply → ℕ → List ℕ
reply_text reply seq = compact_text (reply_data reply seq)
