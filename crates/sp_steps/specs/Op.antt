-- 01, "Port order" 1, union and xor: the two operations that go down both sides of two sets, and what each does to a packet's two bits of membership.

pub data Op : Type 0 where
  union xor : Op
