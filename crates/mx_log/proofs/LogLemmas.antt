-- A log is read as it was written, and was written as it is read.
use Rattle.std.proofs.Common.{◌≡◌, ℕ, ◌-◌, ◌^◌, ◌<◌, ◌≤◌, true, List, ◌++◌, length, Result, Ok, Err, append_assoc, length-append, refl, sym, ap, subst, ◌∙◌, arith}
use Rattle.std.specs.Prelude.{IfOk}
use Rattle.std.specs.Global.{Vec}
use Rattle.std.specs.Int.{w16, w64}
use Rattle.std.proofs.lemmas.Bool.{lt-ltb}
use Rattle.std.proofs.lemmas.Bool.Decides.{nat_tests}
use Rattle.mx_base.specs.declared.entry.Entry.{Entry}
use Rattle.mx_hfile.specs.Encoding.{AreEntries, number, encoding}
use Rattle.mx_lists.specs.Reading.{◌>>=◌, passing}
use Rattle.mx_hfile.specs.Decoding.{number_in, expected_in, placed, file_in}
use Rattle.mx_lists.proofs.Codecs.{IsBytes, Took, Took-then, bind_ok, ok_is}
use Rattle.mx_hfile.proofs.FieldLemmas.{passing_again, passing_takes, wide64, number_codec, expected_takes, expected_again}
use Rattle.mx_hfile.proofs.DataLemmas.{place_ok}
use Rattle.mx_hfile.proofs.FileLemmas.{file_takes, file_again}
use Rattle.mx_log.specs.declared.error.LogError.{LogError}
use Rattle.mx_log.specs.declared.error.LogError.TheVariants as errors
use Rattle.mx_log.specs.Encoding.{log_magic, header, log_encoding, IsMoment}
use Rattle.mx_log.specs.Decoding.{is_moment, header_in, moved, log_in, HasCause, Decodes, IsOnly}

moment : (at : ℕ) → is_moment at ≡ true → IsMoment at
moment at e = record { some = grind (arith, nat_tests); small = grind (arith, nat_tests) }

moment_is : (at : ℕ) → IsMoment at → is_moment at ≡ true
moment_is at m = rw (lt-ltb 0 at m.some, lt-ltb at (10 ^ 17) m.small) refl

header_takes : (bytes : List ℕ) (y : ℕ × List ℕ) → IsBytes bytes → header_in bytes ≡ Ok y → Took bytes (header y.0 (length y.1)) y.1 × IsMoment y.0
unfolding header_in
header_takes bytes y fits e =
    let a = bind_ok (expected_in log_magic bytes) _ y e in
    let b = bind_ok (expected_in (number w16 1) a.0) _ y a.2 in
    let c = bind_ok (passing is_moment (number_in w64) b.0) (λ at. expected_in (number w64 (length at.1 - 8)) at.1 >>= λ content. Ok (at.0, content)) y b.2 in
    let len = length c.0.1 - 8 in
    let d = bind_ok (expected_in (number w64 len) c.0.1) (λ content. Ok (c.0.0, content)) y c.2 in
    let t1 = expected_takes log_magic bytes a.0 fits a.1 in
    let t2 = expected_takes (number w16 1) a.0 b.0 t1.rest_fits b.1 in
    let p = passing_takes is_moment (number_in w64) b.0 c.0 c.1 in
    let t3 = ((number_codec w64 (2 ^ 64) wide64).takes b.0 c.0 t2.rest_fits p.0).0 in
    let t4 = expected_takes (number w64 len) c.0.1 d.0 t3.rest_fits d.1 in
    let u2 = Took-then bytes log_magic a.0 (number w16 1) b.0 t1 t2 in
    let u3 = Took-then bytes (log_magic ++ number w16 1) b.0 (number w64 c.0.0) c.0.1 u2 t3 in
    let u4 = Took-then bytes (log_magic ++ number w16 1 ++ number w64 c.0.0) c.0.1 (number w64 len) d.0 u3 t4 in
    let is : len ≡ length d.0 = omega (arith, ap length t4.parts, length-append (number w64 len) d.0, wide64.len len) in
    let made : ℕ × List ℕ = (c.0.0, d.0) in
    subst (λ (z : ℕ × List ℕ). Took bytes (header z.0 (length z.1)) z.1 × IsMoment z.0) (ok_is made y d.2)
    (subst (λ (n : ℕ). Took bytes (header c.0.0 n) d.0) is u4, moment c.0.0 p.1)

header_again : (at : ℕ) (content : List ℕ) → IsMoment at → length content < 2 ^ 64 → header_in (header at (length content) ++ content) ≡ Ok (at, content)
unfolding header_in
header_again at content good lt =
    let n = length content in
    let last : List ℕ = number w64 n ++ content in
    let small = good.small in
    let regrouped : header at n ++ content ≡ log_magic ++ (number w16 1 ++ (number w64 at ++ last)) = simp append_assoc in
    let moment' = passing_again is_moment (number_in w64) (number w64 at ++ last) (at, last) ((number_codec w64 (2 ^ 64) wide64).again at last (omega (arith, small))) (moment_is at good) in
    let len : length last - 8 ≡ n = omega (arith, length-append (number w64 n) content, wide64.len n) in
    ap header_in regrouped ∙ rw (expected_again log_magic (number w16 1 ++ (number w64 at ++ last)), expected_again (number w16 1) (number w64 at ++ last), moment', len, expected_again (number w64 n) content) refl

pub record IsLogOf (bytes : List ℕ) (at : ℕ) (es : List Entry) : Type 0 where
  pub moment : IsMoment at
  pub entries : AreEntries es
  pub len : length (encoding es) ≤ 268_435_456
  pub spelled : bytes ≡ log_encoding at es

moved_ok : {A : Type 0} (r : Result A ℕ) (x : A) → moved r ≡ Ok x → r ≡ Ok x
moved_ok (Ok y) x e = e
moved_ok (Err at) x e = absurd cc

log_takes : (bytes : List ℕ) (at : ℕ) (es : List Entry) → IsBytes bytes → log_in bytes ≡ Ok (at, es) → IsLogOf bytes at es
unfolding log_in
log_takes bytes at es fits e =
    let h = bind_ok (placed (length bytes) (header_in bytes)) (λ header. moved (file_in header.1) >>= λ entries. Ok (header.0, entries)) (at, es) e in
    let f = bind_ok (moved (file_in h.0.1)) (λ entries. Ok (h.0.0, entries)) (at, es) h.2 in
    let t = header_takes bytes h.0 fits (place_ok (length bytes) (header_in bytes) h.0 h.1) in
    let file = file_takes h.0.1 f.0 t.0.rest_fits (moved_ok (file_in h.0.1) f.0 f.1) in
    let spelled : bytes ≡ log_encoding h.0.0 f.0 = t.0.parts ∙ ap (λ (x : List ℕ). header h.0.0 (length x) ++ x) file.spelled in
    let made : ℕ × List Entry = (h.0.0, f.0) in
    subst (λ (z : ℕ × List Entry). IsLogOf bytes z.0 z.1) (ok_is made (at, es) f.2)
    (record { moment = t.1; entries = file.entries; len = subst (λ (x : List ℕ). length x ≤ 268_435_456) file.spelled file.len; spelled = spelled })

pub log_again : (at : ℕ) (es : List Entry) → IsMoment at → AreEntries es → length (encoding es) ≤ 268_435_456 → log_in (log_encoding at es) ≡ Ok (at, es)
unfolding log_in
log_again at es m good le = rw (header_again at (encoding es) m (omega (arith, le)), file_again es good le) refl

-- ---- the answer

pub is_found : (bytes : List ℕ) (r : Result (ℕ × Vec Entry) LogError) → IsBytes bytes → Decodes (log_in bytes) r
    → IfOk r (λ log. IsMoment log.0 × AreEntries log.1.items × (length (encoding log.1.items) ≤ 268_435_456) × (bytes ≡ log_encoding log.0 log.1.items))
is_found bytes (Ok log) fits read = let f = log_takes bytes log.0 log.1.items fits read in (f.moment, f.entries, f.len, f.spelled)
is_found bytes (Err e) fits read = tt

only_err : (e : LogError) (log : ℕ × List Entry) (read : Result (ℕ × List Entry) ℕ) → read ≡ Ok log → HasCause e read → e ≡ errors.NoMemory
only_err errors.NoMemory log read is cause = refl
only_err (errors.BadLog at) log read is cause = absurd cc

only_from : (at : ℕ) (es : List Entry) (r : Result (ℕ × Vec Entry) LogError) (read : Result (ℕ × List Entry) ℕ) → read ≡ Ok (at, es) → Decodes read r → IsOnly at es r
only_from at es (Ok log) read is d =
    let found : ℕ × List Entry = (log.0, log.1.items) in
    let wanted : ℕ × List Entry = (at, es) in
    let same = ok_is found wanted (sym d ∙ is) in
    (ap (λ (z : ℕ × List Entry). z.0) same, ap (λ (z : ℕ × List Entry). z.1) same)
only_from at es (Err e) read is d = only_err e (at, es) read is d

pub is_only : (bytes : List ℕ) (at : ℕ) (es : List Entry) (r : Result (ℕ × Vec Entry) LogError) → IsMoment at → AreEntries es → length (encoding es) ≤ 268_435_456 → bytes ≡ log_encoding at es → Decodes (log_in bytes) r → IsOnly at es r
is_only bytes at es r m good le is d = only_from at es r (log_in bytes) (ap log_in is ∙ log_again at es m good le) d
