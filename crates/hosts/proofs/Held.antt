-- Tables and the row that they hold. Tables that hold a row that may be lent are well formed, each record is read back from its place, and the roles are those of the tables that were lent:
-- record by record, each is put into well-formed tables and is live and in range, or free with zeros only and not the first process, so that they stay well formed.
-- The other way, the records that well-formed tables hold are a row that may be lent.
-- Assumes nothing.
use Rattle.std.proofs.Common.{ℕ, zero, suc, ◌+◌, ◌≤◌, ◌<◌, ◌≡◌, ◌≢◌, ◌↔◌, arith, true, false, List, length, get_or}
use Rattle.std.proofs.lemmas.List.{ext_get_or}
use Rattle.std.proofs.lemmas.Bool.Decides.{nat_tests}
use Rattle.sets.proofs.Below.{all-at, all_of}
use Rattle.model.specs.declared.Forced.{Forced}
use Rattle.model.specs.declared.Process.{Process}
use Rattle.model.specs.Numbers.{PROCESS, PROCESSES, ROLES, FIRST-PROCESS}
use Rattle.model.specs.Records.{forced_word, process_at, put_process, free_process, occupied}
use Rattle.model.specs.Ranges.{ok_process_forced}
use Rattle.model.proofs.Records.{role_in_forced, process-put-same, process-put-other, process-put-policy}
use Rattle.model.proofs.Formed.{WellFormed, Live, live-process, free-process}
use Rattle.model.proofs.Places.{put-live, put-free-process}
use Rattle.hosts.specs.Records.{record_at, forced_ok, record_ok, row_ok, holding_first, holding, records_from, records_of, SameRoles}

-- ---- a record that may stand at a place is live and in range, or free

forced-iff : (f : Forced) → (forced_ok f ≡ true) ↔ ((role_in_forced f < ROLES) × (ok_process_forced (forced_word f) ≡ true))
forced-iff f = (λ e. grind (arith, nat_tests), λ h. grind (arith, nat_tests))

zero-forced : (f : Forced) → forced_word f ≡ 0 → f ≡ Forced.Plain 0
zero-forced f e = grind arith

module _ (p : ℕ) (r : Process) (ok : record_ok p r ≡ true) where
  live-is : r.live ≡ true → Live r
  unfolding record_ok
  live-is e = grind (arith, nat_tests, forced-iff)

  free-is : r.live ≡ false → (p ≢ FIRST-PROCESS) × (r ≡ free_process)
  unfolding record_ok
  free-is e = grind (arith, nat_tests, zero-forced)

  -- put into well-formed tables, it leaves them so, and is read back
  put-there : (t : List ℕ) → WellFormed t → p < PROCESSES → WellFormed (put_process t p r) × (process_at (put_process t p r) p ≡ r)
  put-there t w l = grind (arith, live-is, free-is, put-live t w p r, put-free-process t w p, process-put-same t w.formed.sized p r)

-- ---- a row that may be lent, and the tables that hold its first n records

pub record Holds (t u : List ℕ) (row : List Process) (n : ℕ) : Type 0 where
  pub formed : WellFormed u
  pub there : (p : ℕ) → p < n → process_at u p ≡ record_at row p
  pub roles : SameRoles t u

module _ (t : List ℕ) (row : List Process) (ok : row_ok row ≡ true) where
  pub sized : length row ≡ PROCESSES
  unfolding row_ok
  sized = grind (arith, nat_tests)

  holds_first : WellFormed t → (n : ℕ) → n ≤ PROCESSES → Holds t (holding_first n t row) row n
  unfolding holding_first row_ok
  holds_first w zero l = grind arith
  holds_first w (suc n) l =
      let u = holding_first n t row in
      let r = record_at row n in
      let h = holds_first w n (omega arith) in
      let each = all-at (λ p. record_ok p (record_at row p)) PROCESSES in
      grind (arith, nat_tests, each, put-there n r, process-put-other u n r, (process-put-policy u n r (omega arith)).roles)

  pub holds : WellFormed t → Holds t (holding t row) row PROCESSES
  holds w = holds_first w PROCESSES (omega arith)

-- ---- the records that tables hold are a row, where each is read at its place

module _ (t : List ℕ) where
  records-size : (p n : ℕ) → length (records_from t p n) ≡ n
  records-size p zero = grind arith
  records-size p (suc n) = grind (arith, records-size (suc p) n)

  records-read : (p n k : ℕ) → k < n → get_or (records_from t p n) k free_process ≡ process_at t (p + k)
  records-read p zero k l = grind arith
  records-read p (suc n) zero l = grind arith
  records-read p (suc n) (suc k) l = grind (arith, records-read (suc p) n k)

  from-are : (row : List Process) (p n : ℕ) → length row ≡ n → ((k : ℕ) → k < n → process_at t (p + k) ≡ get_or row k free_process) → records_from t p n ≡ row
  from-are row p n e same = grind (arith, ext_get_or free_process (records_from t p n) row, records-read p n, records-size p n)

  pub records-sized : length (records_of t) ≡ PROCESSES
  unfolding records_of
  records-sized = records-size 0 PROCESSES

  pub record-there : (p : ℕ) → p < PROCESSES → process_at t p ≡ record_at (records_of t) p
  unfolding record_at records_of
  record-there p l = grind (arith, records-read 0 PROCESSES p l)

  pub records-are : (row : List Process) → length row ≡ PROCESSES → ((p : ℕ) → p < PROCESSES → process_at t p ≡ record_at row p) → records_of t ≡ row
  unfolding record_at records_of
  records-are row size same = from-are row 0 PROCESSES size (λ k l. grind (arith, same k l))

  -- ---- those that well-formed tables hold

  module _ (w : WellFormed t) where
    -- a place is occupied where its record is live, and the record may stand there
    place-is : (p : ℕ) → p < PROCESSES → (occupied t PROCESS p ≡ (process_at t p).live) × (record_ok p (process_at t p) ≡ true)
    unfolding record_ok
    place-is p l = grind (arith, nat_tests, live-process t w.formed p l, free-process t w.formed p l, w.formed.first, forced-iff)

    pub live-mark : (p : ℕ) → p < PROCESSES → occupied t PROCESS p ≡ (process_at t p).live
    live-mark p l = (place-is p l).0

    -- they may be lent
    pub records-ok : row_ok (records_of t) ≡ true
    unfolding row_ok
    records-ok =
        let each = all_of (λ p. record_ok p (record_at (records_of t) p)) PROCESSES (λ p l. grind (arith, record-there p l, place-is p l)) in
        rw (records-sized, each)
