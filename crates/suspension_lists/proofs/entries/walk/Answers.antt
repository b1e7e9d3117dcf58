use Rattle.std.proofs.Common.{◌∙◌, sym, ap, subst, ⊎_elim, ℕ}
use Rattle.heap_words.specs.Trails.{word_at}
use Rattle.heap_words.proofs.Keeps.{loaded_twice}
use Rattle.suspension_lists.specs.declared.entries.Entry.{Entry}
use Rattle.suspension_lists.specs.Entries.{LeadsTo}
use Rattle.suspension_lists.proofs.Lists.{one_of_split, path_on, path_push}
use Rattle.suspension_lists.proofs.Knowing.{still_leads, may_lead}
use Rattle.suspension_lists.proofs.Walking.{walk_falls}
use Rattle.suspension_lists.proofs.entries.walk.Goals as goal

pub returns-in_default-clause-loaded : goal.returns-in_default-clause-loaded
returns-in_default-clause-loaded g c = loaded_twice g.met.W.Words.laws c.list.invariant.loaded c.in_ok-linked.ensures.loaded

pub returns-in_default-clause-entries : goal.returns-in_default-clause-entries
returns-in_default-clause-entries g c = (
  c.list.at,
  path_on c.in_ok-linked.ensures.loaded.went.grows c.args.first c.list.entries.items c.list.at c.list.invariant.path,
  rw c.in_default.is at c.in_ok-linked.ensures.entry,
)

pub returns-in_default-clause-leads : goal.returns-in_default-clause-leads
returns-in_default-clause-leads g c a i = still_leads g.met.W.Words.laws a.at c.entry_at.ensures.between (c.list.invariant.known a i)

pub list-smaller : goal.list-smaller
list-smaller g c =
    rw c.in_ok-push.ensures
    (walk_falls g.met.W.Words.laws c.args.first c.list.at c.list.entries.items c.in-Some.linked c.in_ok-linked.ensures.loaded
    c.list.invariant.path
    (still_leads g.met.W.Words.laws c.list.at c.entry_at.ensures.between (may_lead c.list.at c.list.invariant.leads c.list-test.true))
    (rw c.in-Some.is at c.in_ok-linked.ensures.entry))

pub list-preserved : goal.list-preserved
list-preserved g c =
    let stands = rw c.in-Some.is at c.in_ok-linked.ensures.entry in
    let there : LeadsTo (g.W.Words.leads c.list.words) c.list.at = may_lead c.list.at c.list.invariant.leads c.list-test.true in
    record {
      loaded = loaded_twice g.met.W.Words.laws c.list.invariant.loaded c.in_ok-linked.ensures.loaded;
      binds = c.entry_at.ensures.binds ∙ c.list.invariant.binds;
      reads = c.entry_at.ensures.reads ∙ c.list.invariant.reads;
      leads = rw c.in-Some.is at c.in_ok-linked.ensures.leads;
      path = rw c.in_ok-push.ensures
          (path_push (word_at c.entry_at.new.trail.kept) c.args.first c.list.entries.items c.in-Some.linked.entry c.in-Some.linked.link
          c.list.at (path_on c.in_ok-linked.ensures.loaded.went.grows c.args.first c.list.entries.items c.list.at c.list.invariant.path)
          stands.0 stands.1);
      known = λ a i. still_leads g.met.W.Words.laws a.at c.entry_at.ensures.between
          (⊎_elim (λ j. c.list.invariant.known a j)
          (λ j. subst (λ (b : ℕ). LeadsTo (g.W.Words.leads c.list.words) b) (sym stands.0 ∙ ap (λ (b : Entry). b.at) j) there)
          (one_of_split c.list.entries.items a c.in-Some.linked.entry (rw c.in_ok-push.ensures at i)));
    }
