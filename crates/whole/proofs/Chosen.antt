-- Whatever is chosen when nothing is half done, by the cells, is what the protocol chooses, also for memories that are the same as far as anything is looked at.
use Rattle.std.proofs.Common.{◌≡◌, ℕ, suc, ◌<◌, Bool, true, false, cond, ◌&&◌, eqb, List, length, Some, None, Option, refl, sym, ap, subst, arith}
use Rattle.std.proofs.lemmas.Bool.{eqb-true, both_ways}
use Rattle.sums.specs.Sums.{pick}
use Rattle.protocol.specs.Adder.{next_slot, tells_slot}
use Rattle.protocol.specs.Bounds.{ready_hour}
use Rattle.protocol.specs.Choose as protocol
use Rattle.protocol.specs.GoingOn.{may_go_on, goes_on}
use Rattle.protocol.specs.Limits.{crew}
use Rattle.protocol.specs.Mail.{next_due, sends_next, with_sent}
use Rattle.protocol.specs.Memory.{Memory}
use Rattle.protocol.specs.Phases as phase
use Rattle.protocol.specs.Phases.{Reaction, Act}
use Rattle.protocol.specs.Reader.{begun, whole, ended, first_open}
use Rattle.protocol_world.specs.Sizes.{top, MemorySized}
use Rattle.protocol_bridge.specs.Views.{ActSeen}
use Rattle.protocol_bridge.specs.Same.{SameMemory}
use Rattle.protocol_bridge.proofs.AlikeChoices.{SameAct, same_act, same_sends, same_keeps, SameReaction, same_done, chooses_same}
use Rattle.protocol_bridge.proofs.Mirrored.{Left, left_same}
use Rattle.protocol_bridge.proofs.Same.{memory_trans, letter_trans, page_trans}
use Rattle.machine.specs.Choose as machine
use Rattle.machine.specs.Run as given
use Rattle.gauge.specs.Deeds.{Done}
use Rattle.gauge.specs.Gauge.{gone_on}
use Rattle.gauge.specs.Memory.{at, cells, phase_at, me_at, stage_at, hour_at, next_at, paused_at}
use Rattle.gauge.specs.Views.{next_of, stage_in, memory_of}
use Rattle.whole.specs.Seen.{filled_as_said, own_views}
use Rattle.whole.proofs.Choosing.{Does, reads_is, more_does, rests_does, tells_does}
use Rattle.whole.proofs.Going.{goes_does}
use Rattle.whole.proofs.Passing.{passes_does}
use Rattle.whole.proofs.Sending.{sends_does}

module _ (n : List ℕ) (len : length n ≡ cells) (me : at n me_at < crew) (ph : at n phase_at ≡ 6) (said : filled_as_said n ≡ true) where
  abbrev b : Memory
  b = memory_of n

  -- an hour can be told
  told : (h : ℕ) (o : Option ℕ) → Left (tells_slot b h o) → Does (tells_slot b h o) (machine.told_next n h o)
  told h (Some s) z = tells_does n len me ph said h s z.act.0
  told h None z = passes_does n len me ph said h (omega (arith, z.after.hour))

  -- the reader goes on only from an hour that is whole
  is_whole : may_go_on b (stage_in n) ≡ true → at n stage_at ≡ 1
  is_whole e = on (eqb (at n stage_at) 0) (eqb (at n stage_at) 1) refl e
    where
      on : (x y : Bool) → eqb (at n stage_at) 1 ≡ y → may_go_on b (cond x (begun (at n hour_at)) (cond y (whole (at n hour_at) (next_of (at n next_at))) ended)) ≡ true → at n stage_at ≡ 1
      on true y k e = absurd (both_ways _ refl e)
      on false true k e = eqb-true _ _ k
      on false false k e = absurd (both_ways _ refl e)

  goes : may_go_on b (stage_in n) ≡ true → Left (goes_on b) → Does (goes_on b) (gone_on n)
  goes e z =
      let st = is_whole e in
      let stage : first_open (stage_in n) ≡ suc (at n hour_at) = ap (λ t. first_open (cond (eqb t 0) (begun (at n hour_at)) (cond (eqb t 1) (whole (at n hour_at) (next_of (at n next_at))) ended))) st in
      let low : first_open (stage_in n) < top = z.after.stage in
      goes_does n len me ph said (omega (arith, stage, low)) st

  sent_memory : (j : ℕ) → MemorySized (with_sent b j) → MemorySized b
  sent_memory j z = record {
    me = z.me;
    stage = z.stage;
    pos = z.pos;
    kept = z.kept;
    pages = z.pages;
    finished = z.finished;
    hour = z.hour;
    slot = z.slot;
    words = z.words;
    passed = z.passed;
  }

  sends : (o : Option ℕ) → Left (sends_next b o) → Does (sends_next b o) (machine.sent_next n o)
  sends (Some j) z = sends_does n len j z.act.0 me ph said (sent_memory j z.after)
  sends None z = rests_does n len me ph said

  chosen : (o : Option ℕ) → Left (protocol.chooses_next b o) → Does (protocol.chooses_next b o) (machine.chosen n o)
  chosen (Some h) z = told h (next_slot b h) z
  chosen None z = on (may_go_on b (stage_in n)) refl z
    where
      on : (c : Bool) → may_go_on b (stage_in n) ≡ c → Left (pick c (goes_on b) (sends_next b (next_due b))) →
          Does (pick c (goes_on b) (sends_next b (next_due b))) (cond c (gone_on n) (machine.sent_next n (next_due b)))
      on true e z = goes e z
      on false e z = sends (next_due b) z

  pub chooses_does : Left (protocol.chooses b) → Does (protocol.chooses b) (machine.chooses n)
  chooses_does z =
      let e = reads_is (at n stage_at) (at n hour_at) (at n next_at) (at n paused_at) in
      subst (λ c. Does (pick c (phase.does phase.ready b phase.more) (protocol.chooses_next b (ready_hour b))) (machine.chooses n)) (sym e)
      (on (eqb (at n stage_at) 0 && eqb (at n paused_at) 0)
      (subst (λ c. Left (pick c (phase.does phase.ready b phase.more) (protocol.chooses_next b (ready_hour b)))) e z))
    where
      on : (c : Bool) → Left (pick c (phase.does phase.ready b phase.more) (protocol.chooses_next b (ready_hour b))) →
          Does (pick c (phase.does phase.ready b phase.more) (protocol.chooses_next b (ready_hour b)))
          (cond c (Rattle.gauge.specs.Deeds.does n Rattle.gauge.specs.Deeds.more) (machine.chosen n (ready_hour b)))
      on true z = more_does n len me ph said
      on false z = chosen (ready_hour b) z

-- WHAT IS THE SAME does the same
act_back : (d e : Act) (a : given.Act) → SameAct d e → ActSeen own_views e a → ActSeen own_views d a
act_back _ _ a (same_act d) k = k
act_back _ _ a (same_sends j l m e) k = (k.0, k.1, (k.2.0, k.2.1, letter_trans l m k.2.0 e k.2.2), k.3)
act_back _ _ a (same_keeps w j p q e) k = (k.0, k.1, (k.2.0, k.2.1, page_trans p q k.2.0 e k.2.2), k.3)

pub does_back : (r s : Reaction) (d : Done) → SameReaction r s → Does s d → Does r d
does_back _ _ d (same_done p b c x y sb sa) k = record {
  phase = k.phase;
  memory = memory_trans b c _ sb k.memory;
  said = k.said;
  act = act_back x y _ sa k.act;
}

-- what the protocol would choose of another memory that is the same, by the cells
pub chooses_as : (c : Memory) (n : List ℕ) → SameMemory c (memory_of n) → length n ≡ cells → at n me_at < crew → at n phase_at ≡ 6 → filled_as_said n ≡ true →
    Left (protocol.chooses c) → Does (protocol.chooses c) (machine.chooses n)
chooses_as c n e len me ph said z =
    let same = chooses_same c (memory_of n) e in
    does_back _ _ (machine.chooses n) same (chooses_does n len me ph said (left_same _ _ same z))
