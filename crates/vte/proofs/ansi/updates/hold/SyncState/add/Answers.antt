-- The older bytes have no end of an update, so the search over the last seven of them and the new ones finds what the
-- whole hold has (`find_release`).
use Rattle.vte.proofs.ansi.updates.hold.SyncState.add.Goals as goal
use Rattle.vte.proofs.Common.{ap, arith, drop, FindsRelease, held_of, IsHeldTail, length, length-append, length-drop, List, refl, rules, take, take_all, ℕ, ◌++◌, ◌-◌, ◌∙◌, ◌≡◌}
use Rattle.vte.proofs.lemmas.updates.Sequences.{stays-is, stays_held}

held_tail-slice : {bytes old more : List ℕ} {start len : ℕ} → bytes ≡ old ++ more → len ≡ length old → start ≡ len - 7
    → IsHeldTail old more (take (length bytes - start) (drop start bytes)) start
held_tail-slice {bytes} {start} bytes_are len_is start_is =
    record {
      start_is = start_is ∙ ap (λ n. n - 7) len_is;
      bytes_is =
          take_all (length bytes - start) (drop start bytes) (rw length-drop (omega arith)) ∙ ap (drop start) bytes_are;
    }

pub invariant_of-self : goal.invariant_of-self
invariant_of-self g c =
    let old = held_of c.args.self.now in
    let all = old ++ c.args.more.now in
    let bytes_are : c.extend_from_slice.new.self.items ≡ all = search rules in
    let release : FindsRelease all (length c.args.more.now) c.find_release-release.result =
    c.find_release-release.ensures old c.args.more.now
    (held_tail-slice (c.as_slice.ensures.value ∙ bytes_are) (search rules) c.saturating_sub-start.ensures)
    c.args.self.now.no_end in
    record {
      within = rw bytes_are (omega (arith, release.released));
      no_end = rw (bytes_are, release.released, stays-is) (stays_held all).no_end;
      fits = rw (bytes_are, length-drop) (omega (arith, c.requires, length-append old c.args.more.now));
      capacity = search rules;
    }

pub returns : goal.returns
returns g c =
    let old = held_of c.args.self.now in
    let bytes_are : c.extend_from_slice.new.self.items ≡ old ++ c.args.more.now = search rules in
    let release : FindsRelease (old ++ c.args.more.now) (length c.args.more.now) c.find_release-release.result =
    c.find_release-release.ensures old c.args.more.now
    (held_tail-slice (c.as_slice.ensures.value ∙ bytes_are) (search rules) c.saturating_sub-start.ensures)
    c.args.self.now.no_end in
    record {
      held_is = rw (bytes_are, release.released) (stays-is (old ++ c.args.more.now));
      released_is = rw (bytes_are, release.released) refl;
      begin_count_is = release.begin_count;
    }
