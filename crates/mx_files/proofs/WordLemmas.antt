-- What the words of files leave of names and sizes.
use Rattle.std.proofs.Common.{◌≡◌, ◌≢◌, ℕ, Bool, true, false, cond, List, [], ◌∷◌, ◌++◌, map, append-nil, Option, Some, None, refl, sym, ◌∙◌, ap}
use Rattle.std.specs.Prelude.{option_map, option_to_list, unwrap_or, bytes_eq, fold}
use Rattle.std.specs.Ordering.{eq_by_cmp}
use Rattle.std.specs.FinMap as finmap
use Rattle.std.specs.FinMap.Entries.{is_sorted}
use Rattle.mx_base.specs.declared.entry.FileAt.{FileAt}
use Rattle.mx_payload.specs.declared.payload.NameWord.{NameWord}
use Rattle.mx_payload.specs.declared.payload.Payload.{Payload}
use Rattle.mx_payload.specs.declared.payload.Payload.TheVariants.{Files}
use Rattle.mx_merge.specs.Shown.{SizeMap, with_word, sizes_left, words_with, shown}
use Rattle.mx_files.specs.Files.{FilesMap, name_of, with_file, without_file}
use Rattle.mx_files.specs.Delta.{WordMap, with_new, with_gone, said_in, word_of, named_files}
use Rattle.mx_lists.proofs.Plain.{second}
use Rattle.mx_lists.proofs.TreeLemmas.{R, tied, same_map, find_later, entries-empty}
use Rattle.mx_files.proofs.MapLemmas.{get-insert, get-remove, get-changed, entries-insert, revalued, find-revalued, sorted-revalued}
use lib.Dec.{T}

-- ---- words over sizes

-- the size that is left of a name
abbrev said_over : Option (Option ℕ) → Option ℕ → Option ℕ
said_over None before = before
said_over (Some size) before = size

get-with_word : (sizes : SizeMap) (e : List ℕ × Option ℕ) (q : List ℕ) → finmap.get (with_word sizes (word_of e)) q ≡ cond (bytes_eq e.0 q) e.1 (finmap.get sizes q)
get-with_word sizes (name, Some size) q = get-insert sizes name size q
get-with_word sizes (name, None) q = get-remove sizes name q

get-sizes_left : (es : List (List ℕ × Option ℕ)) (sizes : SizeMap) (q : List ℕ) → T (is_sorted R es) → finmap.get (sizes_left sizes (map word_of es)) q ≡ said_over (finmap.find R q es) (finmap.get sizes q)
get-sizes_left [] sizes q sorted = refl
get-sizes_left (e ∷ es) sizes q sorted =
    get-sizes_left es (with_word sizes (word_of e)) q (second _ _ sorted)
    ∙ ap (said_over (finmap.find R q es)) (get-with_word sizes e q)
    ∙ chosen (eq_by_cmp R q e.0) refl
  where
    chosen : (b : Bool) → eq_by_cmp R q e.0 ≡ b → said_over (finmap.find R q es) (cond (bytes_eq e.0 q) e.1 (finmap.get sizes q)) ≡ said_over (cond b (Some e.1) (finmap.find R q es)) (finmap.get sizes q)
    chosen true is =
        ap (λ (o : Option (Option ℕ)). said_over o (cond (bytes_eq e.0 q) e.1 (finmap.get sizes q))) (find_later q e es sorted is)
        ∙ ap (λ (b : Bool). cond b e.1 (finmap.get sizes q)) (sym (tied e.0 q) ∙ is)
    chosen false is = ap (λ (b : Bool). said_over (finmap.find R q es) (cond b e.1 (finmap.get sizes q))) (sym (tied e.0 q) ∙ is)

pub left_by : SizeMap → WordMap → SizeMap
left_by sizes words = sizes_left sizes (map word_of (finmap.entries words))

get-left_by : (sizes : SizeMap) (words : WordMap) (q : List ℕ) → finmap.get (left_by sizes words) q ≡ said_over (finmap.get words q) (finmap.get sizes q)
unfolding left_by
get-left_by sizes words q =
    get-sizes_left (finmap.entries words) sizes q (finmap.entries_sorted words)
    ∙ ap (λ (o : Option (Option ℕ)). said_over o (finmap.get sizes q)) (sym (finmap.get-entries words q))

pushed : (b : Bool) (o : Option ℕ) (said : Option (Option ℕ)) (before : Option ℕ) → said_over (cond b (Some o) said) before ≡ cond b o (said_over said before)
pushed true o said before = refl
pushed false o said before = refl

module _ (sizes : SizeMap) (words : WordMap) (name : List ℕ) where
  get-one_more : (o : Option ℕ) (q : List ℕ) → finmap.get (left_by sizes (finmap.insert words name o)) q ≡ cond (bytes_eq name q) o (finmap.get (left_by sizes words) q)
  get-one_more o q =
      get-left_by sizes (finmap.insert words name o) q
      ∙ ap (λ (said : Option (Option ℕ)). said_over said (finmap.get sizes q)) (get-insert words name o q)
      ∙ pushed (bytes_eq name q) o (finmap.get words q) (finmap.get sizes q)
      ∙ ap (λ (size : Option ℕ). cond (bytes_eq name q) o size) (sym (get-left_by sizes words q))

  left_by-new : (size : ℕ) → left_by sizes (finmap.insert words name (Some size)) ≡ finmap.insert (left_by sizes words) name size
  left_by-new size = same_map _ _ (λ q. get-one_more (Some size) q ∙ sym (get-insert (left_by sizes words) name size q))

  left_by-gone : left_by sizes (finmap.insert words name None) ≡ finmap.remove (left_by sizes words) name
  left_by-gone = same_map _ _ (λ q. get-one_more None q ∙ sym (get-remove (left_by sizes words) name q))

as_words : (es : List (List ℕ × ℕ)) → map (λ (e : List ℕ × ℕ). record { name = e.0; size = e.1; deleted = false }) es ≡ map word_of (revalued (λ (size : ℕ). Some size) es)
as_words [] = refl
as_words (e ∷ es) = ap (λ (words : List NameWord). record { name = e.0; size = e.1; deleted = false } ∷ words) (as_words es)

as_found : (o : Option ℕ) → said_over (option_map (λ (size : ℕ). Some size) o) None ≡ o
as_found None = refl
as_found (Some size) = refl

-- a list of files over nothing
pub left_again : (sizes : SizeMap) → sizes_left finmap.empty (words_with sizes) ≡ sizes
left_again sizes =
    let es : List (List ℕ × Option ℕ) = revalued (λ (size : ℕ). Some size) (finmap.entries sizes) in
    ap (sizes_left finmap.empty) (as_words (finmap.entries sizes))
    ∙ same_map _ _ (λ q.
    get-sizes_left es finmap.empty q (sorted-revalued (λ (size : ℕ). Some size) sizes)
    ∙ ap (λ (before : Option ℕ). said_over (finmap.find R q es) before) (finmap.get-empty R q)
    ∙ ap (λ (said : Option (Option ℕ)). said_over said None) (find-revalued (λ (size : ℕ). Some size) q (finmap.entries sizes))
    ∙ as_found (finmap.find R q (finmap.entries sizes))
    ∙ sym (finmap.get-entries sizes q))

pub sizes_left-append : (sizes : SizeMap) (first later : List NameWord) → sizes_left sizes (first ++ later) ≡ sizes_left (sizes_left sizes first) later
sizes_left-append sizes [] later = refl
sizes_left-append sizes (word ∷ first) later = sizes_left-append (with_word sizes word) first later

-- ---- what a partition shows

-- the sizes of a partition with these words, where there is a word
abbrev after_words : Option SizeMap → List (List ℕ × Option ℕ) → Option SizeMap
after_words sizes [] = sizes
after_words sizes (e ∷ es) = Some (sizes_left (unwrap_or sizes finmap.empty) (map word_of (e ∷ es)))

abbrev file_list : SizeMap → Payload
file_list sizes = Files (words_with sizes)

shown_files : (sizes : Option SizeMap) (es : List (List ℕ × Option ℕ)) → shown (option_to_list (option_map file_list sizes) ++ option_to_list (named_files (map word_of es))) ≡ option_map file_list (after_words sizes es)
unfolding shown
shown_files None [] = refl
shown_files None (e ∷ es) = ap (λ (words : List NameWord). Some (file_list (sizes_left finmap.empty words))) (append-nil (map word_of (e ∷ es)))
shown_files (Some sizes) [] =
    ap (λ (words : List NameWord). Some (file_list (sizes_left finmap.empty words))) (append-nil (words_with sizes))
    ∙ ap (λ (left : SizeMap). Some (file_list left)) (left_again sizes)
shown_files (Some sizes) (e ∷ es) =
    ap (λ (words : List NameWord). Some (file_list (sizes_left finmap.empty (words_with sizes ++ words)))) (append-nil (map word_of (e ∷ es)))
    ∙ ap (λ (left : SizeMap). Some (file_list left))
    (sizes_left-append finmap.empty (words_with sizes) (map word_of (e ∷ es)) ∙ ap (λ (left : SizeMap). sizes_left left (map word_of (e ∷ es))) (left_again sizes))

-- ---- the files of one partition, as changes come

abbrev with_at : List ℕ → Option SizeMap → FileAt → Option SizeMap
with_at partition sizes file = cond (bytes_eq file.partition partition) (Some (finmap.insert (unwrap_or sizes finmap.empty) (name_of file) file.size)) sizes

abbrev without_at : List ℕ → Option SizeMap → FileAt → Option SizeMap
without_at partition sizes file = cond (bytes_eq file.partition partition) (Some (finmap.remove (unwrap_or sizes finmap.empty) (name_of file))) sizes

get-with_files : (partition : List ℕ) (news : List FileAt) (files : FilesMap) → finmap.get (fold with_file files news) partition ≡ fold (with_at partition) (finmap.get files partition) news
get-with_files partition [] files = refl
get-with_files partition (file ∷ news) files =
    get-with_files partition news (with_file files file)
    ∙ ap (λ (sizes : Option SizeMap). fold (with_at partition) sizes news) (get-changed finmap.empty (λ (sizes : SizeMap). finmap.insert sizes (name_of file) file.size) files file.partition partition)

get-without_files : (partition : List ℕ) (gone : List FileAt) (files : FilesMap) → finmap.get (fold without_file files gone) partition ≡ fold (without_at partition) (finmap.get files partition) gone
get-without_files partition [] files = refl
get-without_files partition (file ∷ gone) files =
    get-without_files partition gone (without_file files file)
    ∙ ap (λ (sizes : Option SizeMap). fold (without_at partition) sizes gone) (get-changed finmap.empty (λ (sizes : SizeMap). finmap.remove sizes (name_of file)) files file.partition partition)

sizes_after : (sizes : Option SizeMap) (es : List (List ℕ × Option ℕ)) → unwrap_or (after_words sizes es) finmap.empty ≡ sizes_left (unwrap_or sizes finmap.empty) (map word_of es)
sizes_after sizes [] = refl
sizes_after sizes (e ∷ es) = refl

after_some : (sizes : Option SizeMap) (es : List (List ℕ × Option ℕ)) → es ≢ [] → after_words sizes es ≡ Some (sizes_left (unwrap_or sizes finmap.empty) (map word_of es))
after_some sizes [] some = absurd (some refl)
after_some sizes (e ∷ es) some = refl

module _ (sizes : Option SizeMap) (partition : List ℕ) where
  after_new : (words : WordMap) (file : FileAt) → with_at partition (after_words sizes (finmap.entries words)) file ≡ after_words sizes (finmap.entries (with_new partition words file))
  unfolding left_by
  after_new words file = chosen (bytes_eq file.partition partition)
    where
      chosen : (b : Bool) → cond b (Some (finmap.insert (unwrap_or (after_words sizes (finmap.entries words)) finmap.empty) (name_of file) file.size)) (after_words sizes (finmap.entries words))
          ≡ after_words sizes (finmap.entries (cond b (finmap.insert words (name_of file) (Some file.size)) words))
      chosen true =
          ap (λ (left : SizeMap). Some (finmap.insert left (name_of file) file.size)) (sizes_after sizes (finmap.entries words))
          ∙ ap (λ (left : SizeMap). Some left) (sym (left_by-new (unwrap_or sizes finmap.empty) words (name_of file) file.size))
          ∙ sym (after_some sizes (finmap.entries (finmap.insert words (name_of file) (Some file.size))) (entries-insert words (name_of file) (Some file.size)))
      chosen false = refl

  after_gone : (words : WordMap) (file : FileAt) → without_at partition (after_words sizes (finmap.entries words)) file ≡ after_words sizes (finmap.entries (with_gone partition words file))
  unfolding left_by
  after_gone words file = chosen (bytes_eq file.partition partition)
    where
      chosen : (b : Bool) → cond b (Some (finmap.remove (unwrap_or (after_words sizes (finmap.entries words)) finmap.empty) (name_of file))) (after_words sizes (finmap.entries words))
          ≡ after_words sizes (finmap.entries (cond b (finmap.insert words (name_of file) None) words))
      chosen true =
          ap (λ (left : SizeMap). Some (finmap.remove left (name_of file))) (sizes_after sizes (finmap.entries words))
          ∙ ap (λ (left : SizeMap). Some left) (sym (left_by-gone (unwrap_or sizes finmap.empty) words (name_of file)))
          ∙ sym (after_some sizes (finmap.entries (finmap.insert words (name_of file) None)) (entries-insert words (name_of file) None))
      chosen false = refl

  all_new : (news : List FileAt) (words : WordMap) → fold (with_at partition) (after_words sizes (finmap.entries words)) news ≡ after_words sizes (finmap.entries (fold (with_new partition) words news))
  all_new [] words = refl
  all_new (file ∷ news) words = ap (λ (o : Option SizeMap). fold (with_at partition) o news) (after_new words file) ∙ all_new news (with_new partition words file)

  all_gone : (gone : List FileAt) (words : WordMap) → fold (without_at partition) (after_words sizes (finmap.entries words)) gone ≡ after_words sizes (finmap.entries (fold (with_gone partition) words gone))
  all_gone [] words = refl
  all_gone (file ∷ gone) words = ap (λ (o : Option SizeMap). fold (without_at partition) o gone) (after_gone words file) ∙ all_gone gone (with_gone partition words file)

-- the words of a partition over its files give its files after
pub shows_files : (files : FilesMap) (news gone : List FileAt) (partition : List ℕ) →
    shown (option_to_list (option_map file_list (finmap.get files partition)) ++ option_to_list (named_files (map word_of (finmap.entries (said_in partition news gone)))))
    ≡ option_map file_list (finmap.get (fold without_file (fold with_file files news) gone) partition)
shows_files files news gone partition =
    let before : Option SizeMap = finmap.get files partition in
    let start : before ≡ after_words before (finmap.entries (finmap.empty {X = Option ℕ} {R = R})) = ap (after_words before) (sym (entries-empty (Option ℕ))) in
    let after : finmap.get (fold without_file (fold with_file files news) gone) partition ≡ after_words before (finmap.entries (said_in partition news gone)) =
    get-without_files partition gone (fold with_file files news)
    ∙ ap (λ (o : Option SizeMap). fold (without_at partition) o gone)
    (get-with_files partition news files ∙ ap (λ (o : Option SizeMap). fold (with_at partition) o news) start ∙ all_new before partition news finmap.empty)
    ∙ all_gone before partition gone (fold (with_new partition) finmap.empty news) in
    shown_files before (finmap.entries (said_in partition news gone)) ∙ ap (option_map file_list) (sym after)
