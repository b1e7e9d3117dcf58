-- The numbers of the marks, by name.
use Rattle.std.specs.Prelude.{ℕ}

-- `(`
abbrev pub round_open : ℕ
round_open = 0

-- `)`
abbrev pub round_close : ℕ
round_close = 1

-- `[`
abbrev pub square_open : ℕ
square_open = 2

-- `]`
abbrev pub square_close : ℕ
square_close = 3

-- `{`
abbrev pub curly_open : ℕ
curly_open = 4

-- `}`
abbrev pub curly_close : ℕ
curly_close = 5

-- `|`
abbrev pub bar : ℕ
bar = 6

-- `,`
abbrev pub comma : ℕ
comma = 7

-- `.`
abbrev pub dot : ℕ
dot = 8

-- `?`
abbrev pub question : ℕ
question = 9

-- `:-`
abbrev pub if_sign : ℕ
if_sign = 10

-- `:=`
abbrev pub assign : ℕ
assign = 11

-- `=`
abbrev pub equals : ℕ
equals = 12

-- `==`
abbrev pub same : ℕ
same = 13

-- `\==`
abbrev pub not_same : ℕ
not_same = 14

-- `<`
abbrev pub less : ℕ
less = 15

-- `=<`
abbrev pub at_most : ℕ
at_most = 16

-- `>`
abbrev pub greater : ℕ
greater = 17

-- `>=`
abbrev pub at_least : ℕ
at_least = 18

-- `=:=`
abbrev pub equal : ℕ
equal = 19

-- `=\=`
abbrev pub not_equal : ℕ
not_equal = 20

-- `+`
abbrev pub plus : ℕ
plus = 21

-- `-`
abbrev pub minus : ℕ
minus = 22

-- `*`
abbrev pub times : ℕ
times = 23

-- `/`
abbrev pub divide : ℕ
divide = 24

-- `:`
abbrev pub colon : ℕ
colon = 25

-- `#`
abbrev pub hash : ℕ
hash = 26
