use Rattle.std.proofs.Common.{◌≡◌, ◌-◌, ◌<◌, ◌≤◌, ℕ, length, drop}
use Rattle.word_commit.specs.Meanings.{Among}
use Rattle.word_commit.specs.Views.{published, all_published}
use Rattle.word_commit.proofs.store.Store.write_all.Given as goal

abbrev pub ghosts-store : goal.ghosts-store
ghosts-store g a = record { then = λ step me found after. after ≡ (published me.0 a.word a.new, me.1) }

-- what is left to publish is what the entry writes from `at` on
abbrev pub invariant-loop-addr : goal.invariant-loop-addr
invariant-loop-addr g l = record {
  seat : l.token.table_id ≡ l.fn.token.table_id;
  due : l.token.me.0.grip.due ≡ drop l.at (g.F.Fits.means.writes l.entry l.number);
  end : l.at ≤ length (g.F.Fits.means.writes l.entry l.number);
  there : (x : ℕ × ℕ) → Among l.token.me.0.grip.due x → x.0 < l.token.table_id.words;
  view : all_published l.token.me.0 l.token.me.0.grip.due ≡ all_published l.fn.token.me.0 l.fn.token.me.0.grip.due;
  bare : l.token.me.1 ≡ l.fn.token.me.1;
}

abbrev pub decreases-loop-addr : goal.decreases-loop-addr
decreases-loop-addr g l = length (g.F.Fits.means.writes l.entry l.number) - l.at
