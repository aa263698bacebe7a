-- What a request has behind its first byte, which says the call (docs/ASK.md).
-- Assumes nothing.
use Rattle.std.specs.Prelude.{◌≡◌, ◌≢◌, ℕ, ◌^◌, ◌<◌, ◌≤◌, Bool, List, ◌++◌, length, ⊤, Option, None, Some, Result, IfErr}
use Rattle.std.specs.Int.{w32, to_be_bytes}
use Rattle.model.specs.Tab.{one_if}
use Rattle.menuask.specs.declared.call.Call.{Call}
use Rattle.menuask.specs.declared.call.Call.TheVariants as call
use Rattle.menuask.specs.declared.request.RequestError.{RequestError}
use Rattle.menuask.specs.declared.request.RequestError.TheVariants.{Bad, Failed}

-- a net or a state of a request has at most so many bytes: more than any lawful one, so that longer ones can be asked about
abbrev pub slice_most : ℕ
slice_most = 16384

-- and the third slice so many: a log, the buffer for one, or weights
abbrev pub third_most : ℕ
third_most = 65536

-- the byte that a request for a call begins with
abbrev pub code_of : Call → ℕ
code_of call.CheckNet = 1
code_of call.Initial = 2
code_of call.CheckState = 3
code_of (call.Event first second started) = 4
code_of (call.Back first second started) = 5
code_of (call.Degree transition) = 6
code_of call.Owed = 7
code_of (call.Run started) = 8
code_of (call.Walk events started) = 9
code_of (call.Step step) = 10
code_of (call.Page budget) = 11
code_of call.Balance = 12

-- a number: four bytes, the highest first
abbrev pub number_bytes : ℕ → List ℕ
number_bytes n = to_be_bytes w32 n

-- whether a start has happened in the step: 1 or 0
abbrev pub flag_bytes : Bool → List ℕ
flag_bytes started = number_bytes (one_if started)

-- a slice: its length, and its bytes
abbrev pub slice_bytes : List ℕ → List ℕ
slice_bytes slice = number_bytes (length slice) ++ slice

abbrev pub both_bytes : List ℕ → List ℕ → List ℕ
both_bytes net state = slice_bytes net ++ slice_bytes state

abbrev pub event_bytes : ℕ → ℕ → Bool → List ℕ
event_bytes first second started = number_bytes first ++ number_bytes second ++ flag_bytes started

-- and what stands behind it: the call's slices and numbers
abbrev pub bytes_of : Call → List ℕ → List ℕ → List ℕ → List ℕ
bytes_of call.CheckNet net state third = slice_bytes net
bytes_of call.Initial net state third = both_bytes net state
bytes_of call.CheckState net state third = both_bytes net state
bytes_of (call.Event first second started) net state third = both_bytes net state ++ event_bytes first second started
bytes_of (call.Back first second started) net state third = both_bytes net state ++ event_bytes first second started
bytes_of (call.Degree transition) net state third = both_bytes net state ++ number_bytes transition
bytes_of call.Owed net state third = both_bytes net state
bytes_of (call.Run started) net state third = both_bytes net state ++ slice_bytes third ++ flag_bytes started
bytes_of (call.Walk events started) net state third = both_bytes net state ++ slice_bytes third ++ number_bytes events ++ flag_bytes started
bytes_of (call.Step step) net state third = slice_bytes third ++ number_bytes step
bytes_of (call.Page budget) net state third = both_bytes net state ++ slice_bytes third ++ number_bytes budget
bytes_of call.Balance net state third = both_bytes net state ++ slice_bytes third

-- the numbers that an event may be asked with: its bytes are bytes, and whether a start has happened is said by 0 or 1
abbrev pub IsEvent : ℕ → ℕ → ℕ → Type 0
IsEvent first second started = (first ≤ 255) × (second ≤ 255) × (started ≤ 1)

-- there is such a call: the bytes of an event are bytes, and a number has four
abbrev pub IsCall : Call → Type 0
IsCall (call.Event first second started) = (first ≤ 255) × (second ≤ 255)
IsCall (call.Back first second started) = (first ≤ 255) × (second ≤ 255)
IsCall (call.Degree transition) = transition < 2 ^ 32
IsCall (call.Walk events started) = events < 2 ^ 32
IsCall (call.Step step) = step < 2 ^ 32
IsCall (call.Page budget) = budget < 2 ^ 32
IsCall _ = ⊤

-- the lengths are 0 of the slices that a call does not have
abbrev pub HasNoOther : Call → ℕ → ℕ → ℕ → Type 0
HasNoOther call.CheckNet net state third = (state ≡ 0) × (third ≡ 0)
HasNoOther (call.Run started) net state third = ⊤
HasNoOther (call.Walk events started) net state third = ⊤
HasNoOther (call.Step step) net state third = (net ≡ 0) × (state ≡ 0)
HasNoOther (call.Page budget) net state third = ⊤
HasNoOther call.Balance net state third = ⊤
HasNoOther _ net state third = third ≡ 0

-- a slice may be sent for a buffer: there is room for it, and its length has four bytes
abbrev pub HasRoom : List ℕ → List ℕ → Type 0
HasRoom buffer slice = (length slice ≤ length buffer) × (length slice < 2 ^ 32)

-- the known bytes do not begin with bs
abbrev pub Lacks : Option (List ℕ) → List ℕ → Type 0
Lacks None bs = ⊤
Lacks (Some xs) bs = (rest : List ℕ) → xs ≢ bs ++ rest

-- no number stands there, no slice for that buffer, and no net and state
abbrev pub NoNumber : Option (List ℕ) → Type 0
NoNumber known = (n : ℕ) → Lacks known (number_bytes n)

abbrev pub NoSlice : Option (List ℕ) → List ℕ → Type 0
NoSlice known buffer = (slice : List ℕ) → HasRoom buffer slice → Lacks known (slice_bytes slice)

abbrev pub NoBoth : Option (List ℕ) → List ℕ → List ℕ → Type 0
NoBoth known nets states = (net state : List ℕ) → HasRoom nets net → HasRoom states state → Lacks known (both_bytes net state)

-- no numbers of an event
abbrev pub NoEvent : Option (List ℕ) → Type 0
NoEvent known = (first second : ℕ) (started : Bool) → first ≤ 255 → second ≤ 255 → Lacks known (event_bytes first second started)

-- and nothing that may be asked by that byte, with slices for these buffers
abbrev pub NoRequest : Option (List ℕ) → ℕ → List ℕ → List ℕ → List ℕ → Type 0
NoRequest known code nets states thirds = (call : Call) (net state third : List ℕ) → code_of call ≡ code → IsCall call
    → HasRoom nets net → HasRoom states state → HasRoom thirds third → Lacks known (bytes_of call net state third)

-- a request that is bad says p; a read that failed says nothing
abbrev pub OnBad : RequestError → Type 0 → Type 0
OnBad Bad p = p
OnBad (Failed e) p = ⊤

abbrev pub IfBad : {A : Type 0} → Result A RequestError → Type 0 → Type 0
IfBad result p = IfErr result (λ why. OnBad why p)
