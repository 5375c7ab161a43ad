-- A search for the end of a run, or of other bytes, goes on where another ended. `scans-X`, `searches-X`: by X.
use Rattle.vte_core.proofs.Common.{ArePrintedAscii, arith, Bool, drop, is_in, IsPrintedAscii, IsRun, length, List, looks_of, printed_ascii, rules, Scans, slice_index, subst, take, true, ℕ, ◌*◌, ◌+◌, ◌<◌, ◌≡◌, ◌≤◌}
use Rattle.vte_core.proofs.lemmas.bytes.Each.{each-block, each-both, each-one}
use Rattle.vte_core.proofs.lemmas.bytes.Runs.{printed-in_range, run-append, run-ascii}
use Rattle.vte_core.specs.declared.reader.Reader.{Reader}
use Rattle.vte_core.specs.private.Runs.{Each}

-- ---- a search by blocks

-- The search has passed bytes that all meet `holds`, with one look for each.
pub record Searches (holds : ℕ → Type 0) (bytes : List ℕ) (from end : ℕ) (old_reader new_reader : Reader) : Type 0 where
  pub low : from ≤ end
  pub high : end ≤ length bytes
  pub passed : Each holds bytes from end
  pub looks : looks_of new_reader + from ≡ looks_of old_reader + end

module _ {holds : ℕ → Type 0} {bytes block : List ℕ} {from end n : ℕ} {old_reader middle new_reader : Reader}
    (searches : Searches holds bytes from end old_reader middle)
    (is_block : (end + n ≤ length bytes) × (block ≡ take n (drop end bytes)) ×
    (looks_of new_reader ≡ looks_of middle + n))
  where
    -- It goes on after a block that meets it whole.
    pub searches-block : Each holds block 0 n → Searches holds bytes from (end + n) old_reader new_reader
    searches-block all = search (rules, arith, each-both, each-block)

    -- It ends within a block whose first bytes meet it.
    pub scans-block : (m : ℕ) → m ≤ n → Each holds block 0 m
        → Scans (Each holds) bytes from (end + m) old_reader new_reader
    scans-block m at_most all = search (rules, arith, each-both, each-block)

-- ---- a search for the end of a run

-- Two searches, one after the other, are one.
pub scans-run : {layout : Bool} {bytes : List ℕ} {i j k : ℕ} {old_reader middle new_reader : Reader}
    → Scans (IsRun layout) bytes i j old_reader middle → Scans (IsRun layout) bytes j k middle new_reader
    → Scans (IsRun layout) bytes i k old_reader new_reader
scans-run scans scans_on = search (rules, arith, run-append)

-- All bytes that the search has passed are a run, with at most 11 looks for three of them.
pub record SearchesRun (layout : Bool) (bytes : List ℕ) (from end : ℕ) (old_reader new_reader : Reader) : Type 0 where
  pub scans : Scans (IsRun layout) bytes from end old_reader new_reader
  pub looks_at_most : 3 * looks_of new_reader + 11 * from ≤ 3 * looks_of old_reader + 11 * end

module _ {layout : Bool} {bytes : List ℕ} {from end next : ℕ} {old_reader middle last : Reader}
    (searches : SearchesRun layout bytes from end old_reader middle) where
  -- After a look at a byte of printed ASCII, it goes on by that and the printed ASCII after it.
  pub searches-ascii : {byte : ℕ} {new_reader : Reader} → looks_of new_reader ≡ looks_of middle + 1
      → byte ≡ slice_index bytes end → is_in printed_ascii byte ≡ true
      → Scans ArePrintedAscii bytes (end + 1) next new_reader last
      → 3 * looks_of last + 11 * (end + 1) ≤ 3 * looks_of new_reader + 11 * next + 8
      → SearchesRun layout bytes from next old_reader last
  searches-ascii {byte} count byte_is printed more at_most =
      let first : IsPrintedAscii (slice_index bytes end) =
      subst IsPrintedAscii byte_is (printed-in_range byte printed) in
      record {
        scans = scans-run searches.scans (record {
          in_order = omega (arith, more.in_order);
          within = more.within;
          passed = run-ascii _ _ _ _
              (each-both IsPrintedAscii _ _ _ _ (each-one IsPrintedAscii bytes end first) more.passed);
          looks_at_least = omega (arith, more.looks_at_least, count);
        });
        looks_at_most = omega (arith, searches.looks_at_most, at_most, count);
      }

  -- It goes on by a further run, such as another character or a kept control, with a look at each byte.
  pub searches-other : end < next → next ≤ length bytes → IsRun layout bytes end next
      → looks_of last + end ≡ looks_of middle + next → SearchesRun layout bytes from next old_reader last
  searches-other in_order within run looks = record {
    scans = scans-run searches.scans (record {
      in_order = omega (arith, in_order);
      within = within;
      passed = run;
      looks_at_least = omega (arith, looks);
    });
    looks_at_most = omega (arith, searches.looks_at_most, looks, in_order);
  }
