use Rattle.std.proofs.Common.{arith, ap, ◌∙◌, ◌≡◌, ◌/◌, ℕ, List, Vec, Global, length}
use Rattle.std.specs.Prelude.{slice_index, vec_len}
use Rattle.word_commit.proofs.Begins.{begins_at}
use Rattle.word_commit.proofs.store.Store.make.Goals as goal

pub of_words-requires : goal.of_words-requires
of_words-requires g c =
    let laid = c.in_ok-laid.ensures in
    let is : c.as_slice.result.now ≡ c.in_ok-laid.laid.items = c.as_slice.ensures.value in
    begins_at g.F.Fits.means _ c.args.words.items c.as_slice.result.now (ap (λ (v : Vec ℕ Global). v.items) c.of.ensures) c.requires.words
    (ap (λ (n : ℕ). n / 1024) (let e : c.len-pages.result ≡ vec_len c.args.words = c.len-pages.ensures in let o = c.args.words.ok in
    let t : c.len-pages.result ≡ length c.args.words.items = omega arith in t)) c.requires.few
    (let o = c.in_ok-laid.laid.ok in let z = laid.size in let l = ap length is in omega arith)
    (λ a lt. ap (λ (w : List ℕ). slice_index w a) is ∙ laid.cells a lt)
    (λ i le. ap (λ (w : List ℕ). slice_index w i) is ∙ laid.zeros i le)
