-- The devices are new, so they tell their bytes, and the lines that `run` writes are those that the writer holds.
use Rattle.std.proofs.Common.{ap, Bool, Bor, false, is_some, List, Some, true, ℕ, [], ◌≡◌}
use Rattle.examples.proofs.logged.lines.Goals as goal
use Rattle.examples.specs.Logged.{bytes_unless}

-- A new device tells what it has inside.
tells : (failed : Bool) (inside given : Bor (List ℕ)) → failed ≡ false → inside ≡ given
    → bytes_unless failed inside.now ≡ Some given.now
tells true inside given works same = cc
tells false inside given works same = ap (λ bytes. Some bytes.now) same

-- The bytes that `bytes_unless` gives, if any, are those that it was given.
are_told : (refused : Bool) (bytes written : List ℕ) → bytes_unless refused bytes ≡ Some written → bytes ≡ written
are_told true bytes written e = cc
are_told false bytes written e = cc

pub returns-in-Ok : goal.returns-in-Ok
returns-in-Ok c =
    let input =
    tells (is_some c.new-2.result.error) c.new-2.result.inner c.args.stream
    c.new-2.ensures.not_failed c.new-2.ensures.inner_is in
    are_told c.run.new.writer.refused c.run.new.writer.bytes.items _
    (c.in-Ok.ensures.lines c.args.stream.now [] input (ap (λ items. Some items) c.new.ensures.items)).written
