use Rattle.std.proofs.Common.{◌+◌, ◌*◌, ◌∙◌, ◌∷◌, List, ℕ, drop, sym, ap, arith}
use Rattle.std.proofs.lemmas.List.{length-set, at_drop_more, at_drop_all}
use Rattle.word_states.specs.Writing.{applied}
use Rattle.page_layout.specs.declared.written.Written.{Written}
use Rattle.page_layout.specs.Writing.{written}
use Rattle.commit_engine.proofs.Stamping.{among_writes}
use Rattle.commit_engine.proofs.plain_hall.write_all.Goals as goal

pub index_mut-requires : goal.index_mut-requires
index_mut-requires c =
    let w = c.index-writes-at.result in
    let lt = c.requires.ranges w.addr (w.word + w.step * c.args.number)
    (among_writes c.args.number c.loop-at.at c.args.writes.now w c.loop-at-test.true (sym c.index-writes-at.is)) in
    let b = c.loop-at.invariant.size in
    let d = c.loop-at.words.ok.0 in
    omega arith

pub loop-at-preserved : goal.loop-at-preserved
loop-at-preserved c =
    let w = c.index-writes-at.result in
    let xs = c.args.writes.now in
    let after : List Written → List ℕ = λ l. applied c.loop-at.words.items (written c.args.number l) in
    record {
      left = ap (λ (v : Written). after (v ∷ drop (c.loop-at.at + 1) xs)) c.index-writes-at.is
          ∙ sym (at_drop_more after xs c.loop-at.at w c.loop-at-test.true) ∙ c.loop-at.invariant.left;
      size = length-set c.loop-at.words.items w.addr _ ∙ c.loop-at.invariant.size;
    }

pub returns : goal.returns
returns c =
    let after : List Written → List ℕ = λ l. applied c.loop-at.words.items (written c.args.number l) in
    sym (at_drop_all after c.args.writes.now c.loop-at.at (omega arith)) ∙ c.loop-at.invariant.left
